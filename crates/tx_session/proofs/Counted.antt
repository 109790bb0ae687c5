-- Replies `no store` are counted by the store.
use Rattle.std.proofs.Common.{◌≡◌, ℕ, ◌+◌, ◌-◌, ◌^◌, ◌≤◌, List, [], ◌∷◌, Option, Some, None, inl, inr}
use Rattle.std.proofs.Common.{sym, subst, arith}
use Rattle.tx_outside.specs.Counts.{NeverFalls, Rose}
use Rattle.tx_outside.proofs.Counting.{never_falls_refl, never_falls_then}
use Rattle.tx_outside.specs.Outside.{StoreSeen}
use Rattle.tx_session.specs.Replies.{Reading, nothing, too_long, unread, command, faulty, IsReply, IsReplyTo}
use Rattle.tx_session.specs.declared.status.Status.{Status}
use Rattle.tx_session.specs.declared.status.Status.TheVariants as statuses
use Rattle.tx_open.specs.Outcomes.{OpenOutcome, faulty_words, missing, too_long as file_too_long, no_tree, store_fault}
use Rattle.tx_open.specs.Outcomes.{no_memory, opened, generated}
use Rattle.tx_session.specs.Runs.{IsPlayed, IsPlayedAlone, IsWhole, Outside, start_with, generated_script, no_files}
use Rattle.tx_session.specs.Scripts.{Answered, before_quit}
use Rattle.tx_session.specs.Worlds.{SeenWorld, World, seen_of_world, LineMark, plain, lacking, unsaved, told}
use Rattle.tx_session.specs.Worlds.{StoresFile, RoseBy, unsaved_in}
use Rattle.tx_cmd.specs.declared.command.Command.{Command}

-- the count after a line with this mark
abbrev Counts : LineMark → ℕ → ℕ → Type 0
Counts unsaved before after = Rose before after × NeverFalls before after
Counts mark before after = NeverFalls before after

same_count : (a b : World) → b ≡ a → NeverFalls a.store.faults b.store.faults
same_count a b e = subst (λ w. NeverFalls a.store.faults w.store.faults) (sym e) (never_falls_refl a.store.faults)

same_store : (a b : StoreSeen) → b ≡ a → NeverFalls a.faults b.faults
same_store a b e = subst (λ s. NeverFalls a.faults s.faults) (sym e) (never_falls_refl a.faults)

stores_count : (o : Option (List ℕ × List ℕ)) (a b : StoreSeen) → StoresFile o a b → NeverFalls a.faults b.faults
stores_count None a b e = subst (λ s. NeverFalls a.faults s.faults) (sym e) (never_falls_refl a.faults)
stores_count (Some file) a b h = h.1.faults

reply_count : (a b : SeenWorld) (it : Command) (mark : LineMark) (reply : List ℕ) → IsReply a it mark b reply
    → Counts mark a.store.faults b.store.faults
reply_count a b it plain reply h = stores_count _ a.store b.store h.stored
reply_count a b it lacking reply h = h.2.1.faults
reply_count a b it unsaved reply h = (h.4.1, h.4.2.faults)
reply_count a b it (told n) reply h =
    subst (λ s. NeverFalls a.store.faults s.faults) (sym h.stored) (never_falls_refl a.store.faults)

line_count : (a b : World) (reading : Reading) (mark : LineMark) (reply : List ℕ) → IsReplyTo a reading mark b reply
    → Counts mark a.store.faults b.store.faults
line_count a b nothing plain reply h = same_count a b h.1
line_count a b nothing lacking reply h = same_count a b h.1
line_count a b nothing unsaved reply h = let other = h.0 in absurd cc
line_count a b nothing (told n) reply h = same_count a b h.1
line_count a b (too_long n) plain reply h = same_store a.store b.store h.0.0.store
line_count a b (too_long n) lacking reply h = same_store a.store b.store h.0.0.store
line_count a b (too_long n) unsaved reply h = absurd h.0
line_count a b (too_long n) (told m) reply h = absurd h.0
line_count a b unread plain reply h = same_store a.store b.store h.1.store
line_count a b unread lacking reply h = same_store a.store b.store h.1.store
line_count a b unread unsaved reply h = let other = h.0 in absurd cc
line_count a b unread (told n) reply h = same_store a.store b.store h.1.store
line_count a b (command c) mark reply h = reply_count (seen_of_world a) (seen_of_world b) c mark reply h.1.replied
line_count a b (faulty f) plain reply h = same_store a.store b.store h.0.store
line_count a b (faulty f) lacking reply h = same_store a.store b.store h.0.store
line_count a b (faulty f) unsaved reply h = absurd h
line_count a b (faulty f) (told n) reply h = absurd h

most : (b c : ℕ) → b ≡ 2 ^ 64 - 1 → NeverFalls b c → c ≡ 2 ^ 64 - 1
most b c e never = let le : c ≤ 2 ^ 64 - 1 = never.within (omega arith) in omega (arith, never.kept)

one_more : (n a b c : ℕ) → Rose a b → RoseBy n b c → NeverFalls b c → RoseBy (1 + n) a c
one_more n a b c (inl above) (inl more) never = inl (omega arith)
one_more n a b c (inl above) (inr last) never = inr last
one_more n a b c (inr last) more never = inr (most b c last never)

no_more : (n a b c : ℕ) → NeverFalls a b → RoseBy n b c → RoseBy n a c
no_more n a b c never (inl more) = inl (omega (arith, never.kept))
no_more n a b c never (inr last) = inr last

never_falls : (mark : LineMark) (a b : ℕ) → Counts mark a b → NeverFalls a b
never_falls plain a b h = h
never_falls lacking a b h = h
never_falls unsaved a b h = h.1
never_falls (told n) a b h = h

all_never : (a b : World) (lines : List (List ℕ)) (marks : List LineMark) (text : List ℕ)
    → Answered a lines marks b text → NeverFalls a.store.faults b.store.faults
all_never a b [] [] text h = same_count a b h.0
all_never a b [] (m ∷ marks) text h = absurd h
all_never a b (l ∷ lines) [] text h = absurd h
all_never a b (l ∷ lines) (m ∷ marks) text h =
    never_falls_then _ _ _ (never_falls m _ _ (line_count a h.0 h.3.0 m h.1 h.3.2))
    (all_never h.0 b lines marks h.2 h.4)

count_next : (m : LineMark) (marks : List LineMark) (a b c : ℕ) → Counts m a b → RoseBy (unsaved_in marks) b c
    → NeverFalls b c → RoseBy (unsaved_in (m ∷ marks)) a c
count_next plain marks a b c h more never = no_more (unsaved_in marks) a b c h more
count_next lacking marks a b c h more never = no_more (unsaved_in marks) a b c h more
count_next unsaved marks a b c h more never = one_more (unsaved_in marks) a b c h.0 more never
count_next (told n) marks a b c h more never = no_more (unsaved_in marks) a b c h more

pub failures_counted : (a b : World) (lines : List (List ℕ)) (marks : List LineMark) (text : List ℕ)
    → Answered a lines marks b text → RoseBy (unsaved_in marks) a.store.faults b.store.faults
failures_counted a b [] [] text h = let never = same_count a b h.0 in inl (omega (arith, never.kept))
failures_counted a b [] (m ∷ marks) text h = absurd h
failures_counted a b (l ∷ lines) [] text h = absurd h
failures_counted a b (l ∷ lines) (m ∷ marks) text h =
    count_next m marks a.store.faults h.0.store.faults b.store.faults (line_count a h.0 h.3.0 m h.1 h.3.2)
    (failures_counted h.0 b lines marks h.2 h.4) (all_never h.0 b lines marks h.2 h.4)

-- ---- of a whole run

played_counted : (v x : World) (script : List ℕ) (marks : List LineMark) (r : Option (List ℕ)) (s : Status) (a : List ℕ)
    → IsPlayed v script marks r s x a → RoseBy (unsaved_in marks) v.store.faults x.store.faults
played_counted v x script marks r statuses.Ok a h = failures_counted v x (before_quit h.lines) marks a h.answered
played_counted v x script marks r statuses.ScriptLong a h = failures_counted v x h.lines marks a h.answered
played_counted v x script marks r statuses.InputFault a h = failures_counted v x h.ended marks a h.answered
played_counted v x script marks r statuses.NoMemory a h = failures_counted v x h.ended marks a h.answered
played_counted v x script marks r statuses.Words a h = absurd h
played_counted v x script marks r statuses.Missing a h = absurd h
played_counted v x script marks r statuses.Refused a h = absurd h
played_counted v x script marks r statuses.StoreFault a h = absurd h
played_counted v x script marks r statuses.OutputFault a h = absurd h

unopened_counted : (v x : StoreSeen) (marks : List LineMark) → marks ≡ [] → NeverFalls v.faults x.faults
    → RoseBy (unsaved_in marks) v.faults x.faults
unopened_counted v x marks e never =
    subst (λ ms. RoseBy (unsaved_in ms) v.faults x.faults) (sym e) (inl (omega (arith, never.kept)))

none_counted : (n a : ℕ) → RoseBy n 0 0 → n + a ≤ a
none_counted n a (inl le) = omega (arith, le)
none_counted n a (inr e) = absurd (omega (arith, e))

pub whole_counted : (o : OpenOutcome) (v x : Outside) (marks : List LineMark) (s : Status) (a : List ℕ)
    → IsWhole o v x marks s a → RoseBy (unsaved_in marks) v.store.faults x.store.faults
whole_counted (opened all) v x marks s a h =
    let first : World = start_with all h.first h.steps in
    let played : RoseBy (unsaved_in marks) h.first.faults h.last.store.faults =
    played_counted first h.last h.script marks x.input.left s h.replies h.played in
    subst (λ z. RoseBy (unsaved_in marks) v.store.faults z.faults) h.stored
    (no_more (unsaved_in marks) v.store.faults h.first.faults h.last.store.faults h.loaded.1.faults played)
whole_counted (generated all) v x marks s a h =
    let p : IsPlayedAlone all v.steps x.steps marks s h.replies = h.played in
    let played : RoseBy (unsaved_in marks) 0 p.last.store.faults =
    played_counted (start_with all no_files p.steps) p.last generated_script marks (Some p.left) s h.replies p.played in
    let none : RoseBy (unsaved_in marks) 0 0 =
    subst (λ (z : StoreSeen). RoseBy (unsaved_in marks) 0 z.faults) p.kept played in
    subst (λ (z : StoreSeen). RoseBy (unsaved_in marks) v.store.faults z.faults) (sym h.stored)
    (inl (none_counted (unsaved_in marks) v.store.faults none))
whole_counted faulty_words v x marks s a h = unopened_counted v.store x.store marks h.unmarked h.kept.1.faults
whole_counted (missing f) v x marks s a h = unopened_counted v.store x.store marks h.unmarked h.kept.1.faults
whole_counted (file_too_long f) v x marks s a h = unopened_counted v.store x.store marks h.unmarked h.kept.1.faults
whole_counted (no_tree f c) v x marks s a h = unopened_counted v.store x.store marks h.unmarked h.kept.1.faults
whole_counted (store_fault f) v x marks s a h = unopened_counted v.store x.store marks h.unmarked h.kept.1.faults
whole_counted no_memory v x marks s a h = unopened_counted v.store x.store marks h.unmarked h.kept.1.faults
