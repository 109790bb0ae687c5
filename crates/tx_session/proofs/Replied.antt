-- A reply that was said is the command's.
use Rattle.std.proofs.Common.{◌≡◌, ℕ, List, Option, Result, sym, subst}
use Rattle.tx_outside.specs.declared.faults.WriteFault.{WriteFault}
use Rattle.tx_outside.specs.Outside.{StoreSeen}
use Rattle.tx_cmd.specs.declared.command.Command.{Command}
use Rattle.tx_session.specs.declared.replies.Reply.{Reply}
use Rattle.tx_session.specs.declared.session.Next.{Next}
use Rattle.tx_session.specs.Keeps.{Keeps, Takes}
use Rattle.tx_session.specs.Replies.{IsReply}
use Rattle.tx_session.specs.Saying.{reply_mark, reply_text}
use Rattle.tx_session.specs.Worlds.{WholeSession, LineMark}
use Rattle.tx_session.specs.Writing.{IsSaid}

-- what a command leaves: its reply, what is cached, and the steps
abbrev pub IsReplied : Command → (before after : WholeSession) → (store later : StoreSeen) → (old new : ℕ)
    → Result Next WriteFault → (written behind : Option (List ℕ)) → Type 0
IsReplied it before after store later old new result written behind =
    (mark : LineMark) × (reply : List ℕ)
    × IsReply (record { session = before.seen; store = store }) it mark (record { session = after.seen; store = later })
    reply
    × IsSaid result reply written behind × Keeps before it mark after × Takes before it mark old new

pub is_replied : (it command : Command) (before after : WholeSession) (store later : StoreSeen) (old new : ℕ)
    (reply : Reply) (text : List ℕ) (result : Result Next WriteFault) (written behind : Option (List ℕ)) → command ≡ it
    → text ≡ reply_text reply
    → IsReply (record { session = before.seen; store = store }) it (reply_mark reply)
    (record { session = after.seen; store = later }) (reply_text reply)
    → IsSaid result text written behind → Keeps before it (reply_mark reply) after
    → Takes before it (reply_mark reply) old new
    → IsReplied command before after store later old new result written behind
is_replied it command before after store later old new reply text result written behind e t r s k c = (
  reply_mark reply,
  reply_text reply,
  subst (λ x. IsReply (record { session = before.seen; store = store }) x (reply_mark reply)
      (record { session = after.seen; store = later }) (reply_text reply)) (sym e) r,
  subst (λ x. IsSaid result x written behind) t s,
  subst (λ x. Keeps before x (reply_mark reply) after) (sym e) k,
  subst (λ x. Takes before x (reply_mark reply) old new) (sym e) c,
)

-- a reply that was written by itself
pub is_said : (it command : Command) (before after : WholeSession) (store later : StoreSeen) (old new : ℕ)
    (result : Result Next WriteFault) (written behind : Option (List ℕ)) → command ≡ it
    → IsReplied it before after store later old new result written behind
    → IsReplied command before after store later old new result written behind
is_said it command before after store later old new result written behind e h =
    subst (λ x. IsReplied x before after store later old new result written behind) (sym e) h
