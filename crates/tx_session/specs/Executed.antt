-- What comes of executing one line.
use Rattle.std.specs.Prelude.{◌≡◌, ℕ, true, List, codes, Option, Result, Ok, Err}
use Rattle.std.specs.Io.KnownBytes.{append_known}
use Rattle.std.specs.Str.{bytes_eq}
use Rattle.tx_outside.specs.Known.{AppendsPart}
use Rattle.tx_outside.specs.declared.faults.WriteFault.{WriteFault}
use Rattle.tx_session.specs.declared.session.Next.{Next}
use Rattle.tx_session.specs.declared.session.Next.TheVariants as nexts
use Rattle.tx_session.specs.Replies.{IsLineReply}
use Rattle.tx_session.specs.Worlds.{World, LineMark}

-- The line has its reply, and the reply is written after what was. Or it is `quit`, and nothing changed. Or the output
-- failed, and the reply is written in part. The line has no newline, and no return that belongs to one.
abbrev pub IsExecuted : Result Next WriteFault → World → (line : List ℕ) → World → (before after : Option (List ℕ)) →
    Type 0
IsExecuted (Ok nexts.Go) seen line next before after =
    (mark : LineMark) × (reply : List ℕ) × IsLineReply seen line mark next reply × (after ≡ append_known before reply)
IsExecuted (Ok nexts.Quit) seen line next before after =
    (bytes_eq line (codes "quit") ≡ true) × (next ≡ seen) × (after ≡ before)
IsExecuted (Err fault) seen line next before after =
    (mark : LineMark) × (reply : List ℕ) × IsLineReply seen line mark next reply × AppendsPart reply before after
