-- What became of a file that was to be saved. Only private clauses cite this.
use Rattle.std.specs.Prelude.{◌≡◌, ℕ, List, Some}
use Rattle.tx_outside.specs.Outside.{StoreSeen}
use Rattle.tx_tree.specs.WideTree.{WideTree}
use Rattle.tx_doc.specs.Forms.{form_of}
use Rattle.tx_session.specs.declared.replies.Reply.{Reply}
use Rattle.tx_session.specs.declared.replies.Reply.TheVariants.{Wanting, Unsaved}
use Rattle.tx_session.specs.Forms.{writes, saving}
use Rattle.tx_session.specs.Saying.{reply_text}
use Rattle.tx_session.specs.States.{save_reply, file_saved}
use Rattle.tx_session.specs.Worlds.{StoresFile, KeepsFiles, FailsToStore}

-- the reply to saving the tree under this name
abbrev pub IsSaveReply : List ℕ → WideTree → Reply → (before after : StoreSeen) → Type 0
IsSaveReply name t Wanting before after = KeepsFiles before after
IsSaveReply name t Unsaved before after =
    (bytes : List ℕ) × (saving (form_of name) t ≡ writes bytes) × FailsToStore name before after
IsSaveReply name t reply before after = (reply_text reply ≡ save_reply (saving (form_of name) t))
    × StoresFile (file_saved name (saving (form_of name) t)) before after

-- the reply to storing these bytes, where another was given for success
abbrev pub IsKeepReply : List ℕ → List ℕ → (given : Reply) → Reply → (before after : StoreSeen) → Type 0
IsKeepReply name bytes given Wanting before after = KeepsFiles before after
IsKeepReply name bytes given Unsaved before after = FailsToStore name before after
IsKeepReply name bytes given reply before after = (reply ≡ given) × StoresFile (Some (name, bytes)) before after
