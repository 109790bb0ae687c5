-- Replies that were made. Only private clauses cite this.
use Rattle.std.specs.Prelude.{◌≡◌, ℕ, List}
use Rattle.tx_session.specs.declared.replies.Reply.{Reply}
use Rattle.tx_session.specs.declared.replies.Reply.TheVariants.{Done, Fixed, Made, Wanting, Unsaved}
use Rattle.tx_session.specs.States.{done_reply}
use Rattle.tx_session.specs.Replies.{wanting_reply, unsaved_reply}
use Rattle.tx_session.specs.Worlds.{LineMark, plain, lacking, unsaved}

abbrev pub reply_text : Reply → List ℕ
reply_text Done = done_reply
reply_text (Fixed text) = text.now
reply_text (Made text) = text.items
reply_text Wanting = wanting_reply
reply_text Unsaved = unsaved_reply

abbrev pub reply_mark : Reply → LineMark
reply_mark Wanting = lacking
reply_mark Unsaved = unsaved
reply_mark _ = plain

-- this is the reply, unless memory ran out
abbrev pub Says : Reply → List ℕ → Type 0
Says Wanting text = Unit {0}
Says Unsaved text = ⊥
Says reply text = reply_text reply ≡ text
