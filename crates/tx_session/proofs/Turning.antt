-- What became of a line that was executed.
use Rattle.std.proofs.Common.{◌≡◌, ◌≢◌, ◌⊎◌, inl, inr, ℕ, ◌<◌, ◌≤◌, ◌+◌, ◌==◌, Bool, true, false, List, [], ◌∷◌, length}
use Rattle.std.proofs.Common.{refl, ap, sym, subst, ◌∙◌, Option, Result, Ok, Err, arith}
use Rattle.std.specs.Io.KnownBytes.{append_known}
use Rattle.tx_outside.proofs.Pieces.{append_known-nil}
use Rattle.tx_outside.specs.declared.faults.WriteFault.{WriteFault}
use Rattle.tx_cmd.specs.declared.TheConstants.{MOST_LINE}
use Rattle.tx_cmd.specs.declared.command.Command.{Command}
use Rattle.tx_cmd.specs.declared.command.Command.TheVariants.{Quit}
use Rattle.tx_cmd.specs.declared.command.CmdFault.{CmdFault}
use Rattle.tx_cmd.specs.declared.command.CmdFault.TheVariants as causes
use Rattle.tx_cmd.specs.Words.{up_to_space, TakesMemory}
use Rattle.tx_cmd.specs.Commands.{IsCommand, values_of}
use Rattle.tx_cmd.specs.Refusals.{IsCmdFault}
use Rattle.tx_cmd.specs.Values.{nodes_in_values}
use Rattle.tx_session.specs.declared.session.Next.{Next}
use Rattle.tx_session.specs.declared.session.Next.TheVariants as nexts
use Rattle.tx_session.specs.Keeps.{Keeps, Takes}
use Rattle.tx_session.specs.Worlds.{SeenSession, WholeSession, World, IsAsBefore, seen_of_world, LineMark, plain}
use Rattle.tx_session.specs.Worlds.{lacking, unsaved, told}
use Rattle.tx_session.specs.Replies.{nothing, too_long, unread, command, faulty, IsAsked, IsRefusalReply, IsReply}
use Rattle.tx_session.specs.Replies.{IsLineReply, refusal, wanting_reply}
use Rattle.tx_session.proofs.Quits.{quit_spelled}
use Rattle.tx_session.specs.Writing.{IsSaid}
use Rattle.tx_session.specs.Executed.{IsExecuted}

-- nothing changed, or some steps were counted
pub as_before : (seen : World) → IsAsBefore seen seen
as_before seen = record { session = refl; store = refl; steps = omega arith }

pub counted_on : (seen : World) (steps : ℕ) → seen.steps ≤ steps → IsAsBefore seen (record seen { steps = steps })
counted_on seen steps more = record { session = refl; store = refl; steps = more }

-- a refusal, or out of memory in its place
pub refused_reply : (seen next : World) (text reply : List ℕ) → IsAsBefore seen next
    → (reply ≡ text) ⊎ (reply ≡ wanting_reply) → (mark : LineMark) × IsRefusalReply seen text mark next reply
refused_reply seen next text reply same (inl e) = (plain, (same, e))
refused_reply seen next text reply same (inr e) = (lacking, (same, e))

long_reply : (seen : World) (line : List ℕ) (count : ℕ) (reply : List ℕ) → MOST_LINE < length line → count ≡ length line
    → (reply ≡ refusal (causes.Long count)) ⊎ (reply ≡ wanting_reply)
    → (mark : LineMark) × IsLineReply seen line mark seen reply
long_reply seen line count reply long is e =
    let r = refused_reply seen seen (refusal (causes.Long count)) reply (as_before seen) e in
    (r.0, (too_long count, (long, is), (r.1, refl)))

lacking_reply : (seen next : World) (line reply : List ℕ) → IsAsBefore seen next → IsAsked line
    → TakesMemory (up_to_space line)
    → (reply ≡ refusal causes.Memory) ⊎ (reply ≡ wanting_reply)
    → (mark : LineMark) × IsLineReply seen line mark next reply
lacking_reply seen next line reply same asked takes (inl e) = (lacking, (unread, (asked, takes), (refl, same, e)))
lacking_reply seen next line reply same asked takes (inr e) = (lacking, (unread, (asked, takes), (refl, same, e)))

faulty_reply : (seen next : World) (line : List ℕ) (cause : CmdFault) (reply : List ℕ) → IsAsBefore seen next
    → IsAsked line → cause ≢ causes.Memory
    → IsCmdFault line cause → (reply ≡ refusal cause) ⊎ (reply ≡ wanting_reply)
    → (mark : LineMark) × IsLineReply seen line mark next reply
faulty_reply seen next line cause reply same asked named is e =
    let r = refused_reply seen next (refusal cause) reply same e in
    (r.0, (faulty cause, (asked, named, is), r.1))

-- a reply was said, and the session goes on
pub said_turned : (result : Result Next WriteFault) (seen next : World) (line reply : List ℕ)
    (before after : Option (List ℕ)) → result ≢ Ok nexts.Quit
    → (mark : LineMark) × IsLineReply seen line mark next reply → IsSaid result reply before after
    → IsExecuted result seen line next before after
said_turned (Ok nexts.Go) seen next line reply before after goes r said = (r.0, reply, r.1, said)
said_turned (Ok nexts.Quit) seen next line reply before after goes r said = absurd (goes refl)
said_turned (Err fault) seen next line reply before after goes r said = (r.0, reply, r.1, said)

module _ (result : Result Next WriteFault) (seen : World) (line : List ℕ) (before after : Option (List ℕ))
    (goes : result ≢ Ok nexts.Quit) where
  abbrev Said : CmdFault → Type 0
  Said cause = (reply : List ℕ) × ((reply ≡ refusal cause) ⊎ (reply ≡ wanting_reply)) × IsSaid result reply before after

  pub long_turned : (count : ℕ) → MOST_LINE < length line → count ≡ length line
      → Said (causes.Long count) → IsExecuted result seen line seen before after
  long_turned count long is said =
      said_turned result seen seen line said.0 before after goes
      (long_reply seen line count said.0 long is said.1) said.2

  named_turned : (next : World) (cause : CmdFault) → IsAsBefore seen next → IsAsked line
      → cause ≢ causes.Memory
      → IsCmdFault line cause → Said cause → IsExecuted result seen line next before after
  named_turned next cause same asked named is said =
      said_turned result seen next line said.0 before after goes
      (faulty_reply seen next line cause said.0 same asked named is said.1) said.2

  -- a line that is no command, or that memory did not suffice to read
  pub refused_turned : (next : World) (cause : CmdFault) → IsAsBefore seen next → IsAsked line
      → IsCmdFault line cause
      → (cause ≡ causes.Memory → TakesMemory (up_to_space line)) → Said cause
      → IsExecuted result seen line next before after
  refused_turned next (causes.Long n) same asked is takes said =
      named_turned next (causes.Long n) same asked (λ e. cc) is said
  refused_turned next causes.Unknown same asked is takes said =
      named_turned next causes.Unknown same asked (λ e. cc) is said
  refused_turned next (causes.Args n) same asked is takes said =
      named_turned next (causes.Args n) same asked (λ e. cc) is said
  refused_turned next (causes.Path n) same asked is takes said =
      named_turned next (causes.Path n) same asked (λ e. cc) is said
  refused_turned next (causes.Tree f) same asked is takes said =
      named_turned next (causes.Tree f) same asked (λ e. cc) is said
  refused_turned next causes.Memory same asked is takes said =
      said_turned result seen next line said.0 before after goes
      (lacking_reply seen next line said.0 same asked (takes refl) said.1) said.2

-- an empty line
pub empty_turned : (seen : World) (line : List ℕ) (before after : Option (List ℕ)) → line ≡ []
    → after ≡ append_known before [] → IsExecuted (Ok nexts.Go) seen line seen before after
empty_turned seen line before after e same = (plain, [], (nothing, e, (refl, refl, refl)), same)

pub same_seen : (a b : SeenSession) → a.state ≡ b.state → a.width ≡ b.width → a.height ≡ b.height → a.fresh ≡ b.fresh
    → a ≡ b
same_seen a b s w h f = λ i. record { state = s i; width = w i; height = h i; fresh = f i }

pub same_session : (a b : WholeSession) → a.seen ≡ b.seen → a.keep ≡ b.keep → a ≡ b
same_session a b s k = λ i. record { seen = s i; keep = k i }

pub same_world : (a b : World) → a.session ≡ b.session → a.store ≡ b.store → a.steps ≡ b.steps → a ≡ b
same_world a b s k n = λ i. record { session = s i; store = k i; steps = n i }

-- `quit` leaves all as it was
quit_done : (seen next : World) (mark : LineMark) (reply : List ℕ)
    → IsReply (seen_of_world seen) Quit mark (seen_of_world next) reply
    → Keeps seen.session Quit mark next.session → next.steps ≡ seen.steps → next ≡ seen
quit_done seen next plain reply r k n =
    let same = same_seen next.session.seen seen.session.seen r.answer.0 r.width r.height r.fresh in
    same_world next seen (same_session next.session seen.session same k) r.stored n
quit_done seen next lacking reply r k n = let bad = r.0 in cc
quit_done seen next unsaved reply r k n = let none = r.2 in absurd cc
quit_done seen next (told m) reply r k n = let bad = r.work in absurd cc

-- what the session's step says of a command that was read when the count of steps was this
abbrev pub IsStepped : Result Next WriteFault → World → ℕ → World → Command → (before after : Option (List ℕ)) → Type 0
IsStepped result seen read next it before after =
    (mark : LineMark) × (reply : List ℕ) × IsReply (seen_of_world seen) it mark (seen_of_world next) reply
    × IsSaid result reply before after × Keeps seen.session it mark next.session
    × Takes seen.session it mark read next.steps

-- a command was read, which takes at most these steps
abbrev pub IsReadBy : World → Command → ℕ → Type 0
IsReadBy seen it read = (seen.steps ≤ read) × (read ≤ seen.steps + nodes_in_values (values_of it))

-- no steps are taken in reading `quit`
quit_read : (seen : World) (read : ℕ) → IsReadBy seen Quit read → read ≡ seen.steps
quit_read seen read h = let less : read ≤ seen.steps + 0 = h.1 in omega (arith, h.0, less)

quit_stepped : (result : Result Next WriteFault) (seen next : World) (read : ℕ) (before after : Option (List ℕ))
    → IsReadBy seen Quit read → next.steps ≡ read → IsStepped result seen read next Quit before after → next ≡ seen
quit_stepped result seen next read before after h e r =
    quit_done seen next r.0 r.1 r.2 r.4 (e ∙ quit_read seen read h)

module _ (seen next : World) (read : ℕ) (line : List ℕ) (it : Command) (before after : Option (List ℕ))
    (some : IsAsked line) (is : IsCommand line it) (by : IsReadBy seen it read) where
  step_replied : (result : Result Next WriteFault) → (it ≢ Quit)
      → (r : IsStepped result seen read next it before after) → IsLineReply seen line r.0 next r.1
  step_replied result other r = (
    command it,
    (some, is),
    (
      other,
      record {
        replied = r.2;
        keeps = r.4;
        read = read;
        reading = by;
        takes = r.5;
      },
    ),
  )

  -- the session's step did the command
  pub stepped_turned : (result : Result Next WriteFault) → (result ≡ Ok nexts.Quit → it ≡ Quit)
      → (it ≡ Quit → result ≡ Ok nexts.Quit) → (it ≡ Quit → after ≡ before) → (it ≡ Quit → next.steps ≡ read)
      → IsStepped result seen read next it before after → IsExecuted result seen line next before after
  stepped_turned (Ok nexts.Go) quits quit silent still r =
      (r.0, r.1, step_replied (Ok nexts.Go) (λ e. let bad = quit e in cc) r, r.3)
  stepped_turned (Ok nexts.Quit) quits quit silent still r =
      let e = quits refl in (
        quit_spelled line (subst (IsCommand line) e is),
        quit_stepped (Ok nexts.Quit) seen next read before after (subst (λ c. IsReadBy seen c read) e by) (still e)
            (subst (λ c. IsStepped (Ok nexts.Quit) seen read next c before after) e r),
        silent e,
      )
  stepped_turned (Err fault) quits quit silent still r =
      (r.0, r.1, step_replied (Err fault) (λ e. let bad = quit e in cc) r, r.3)

-- small facts of a line
pub long_line : (line : List ℕ) (count : ℕ) → count ≡ length line → MOST_LINE < count → line ≢ []
long_line line count is long e = omega (arith, is, long, ap length e)

pub no_line : (line : List ℕ) (r : Bool) → r ≡ (length line == 0) → r ≡ true → line ≡ []
no_line [] r e t = refl
no_line (b ∷ line) r e t = grind arith

pub some_line : (line : List ℕ) (r : Bool) → r ≡ (length line == 0) → r ≡ false → line ≢ []
some_line line r e f n = grind (arith, ap length n)

pub nothing_written : (before : Option (List ℕ)) → before ≡ append_known before []
nothing_written before = sym (append_known-nil before)
