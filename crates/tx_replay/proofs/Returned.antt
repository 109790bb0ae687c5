-- What was returned of a unit can be cached for the next evaluation of it.
use Rattle.std.proofs.Common.{◌≡◌, ℕ, List, [], ◌∷◌, ◌++◌, map, refl, ap, sym, subst, ◌∙◌}
use Rattle.std.proofs.lemmas.List.{append_cancel_left}
use Rattle.std.proofs.lemmas.Slice.Eq.{bytes_eq-Decides}
use Rattle.std.specs.Prelude.{Bool, true, false, Option, Some, None, if◌then◌else◌}
use Rattle.std.specs.List.{AllByRecursion}
use Rattle.std.specs.Str.{bytes_eq}
use Rattle.tx_tree.specs.WideTree.{WideTree}
use Rattle.tx_tree.specs.Paths.{subtree}
use Rattle.tx_exec_form.specs.Runs.{Before}
use Rattle.tx_exec_form.specs.Evaluated.{WideTrace}
use Rattle.tx_exec_form.specs.Laws.{Supports}
use Rattle.tx_exec_form.proofs.Tracing.{supports}
use Rattle.tx_kept.specs.declared.path_map.Entry.{Entry}
use Rattle.tx_parts.specs.Composed.{alone}
use Rattle.tx_parts.specs.Opening.{no_shells}
use Rattle.tx_parts.specs.Parts.{Part, parts, part_trace}
use Rattle.tx_parts.specs.Standing.{StandsIn}
use Rattle.tx_parts.proofs.Standing.{parts_by_stand}
use Rattle.tx_replay.specs.Cached.{trace_at, store_below, seen}
use Rattle.tx_replay.specs.Held.{Stores, IsSound}
use Rattle.tx_replay.specs.Seen.{Seen, seen_in, seen_parts}
use Rattle.tx_replay.specs.declared.cached.CachedPart.{CachedPart}

-- the first of each and the others
record Alike (kept : Stores) (x : Entry CachedPart) (xs : List (Entry CachedPart)) (p : Part) (ps : List Part) :
    Type 0 where
  first : seen x ≡ seen_in kept p
  others : map seen xs ≡ map (seen_in kept) ps

alike : (kept : Stores) (x : Entry CachedPart) (xs : List (Entry CachedPart)) (p : Part) (ps : List Part) →
    map seen (x ∷ xs) ≡ map (seen_in kept) (p ∷ ps) → Alike kept x xs p ps
alike kept x xs p ps h = record { first = ap (head (seen x)) h; others = ap tail h }
  where
    head : Seen → List Seen → Seen
    head s [] = s
    head s (y ∷ ys) = y

    tail : List Seen → List Seen
    tail [] = []
    tail (y ∷ ys) = ys

-- the part whose trace is cached at a path
record Found (base : List ℕ) (t : WideTree) (at : List ℕ) (trace : WideTrace) : Type 0 where
  part : Part
  stands : StandsIn [] t part
  is_at : base ++ part.path ≡ at
  comes : part_trace part ≡ Some trace

found_in : (kept : Stores) (t : WideTree) (at : List ℕ) (trace : WideTrace) (xs : List (Entry CachedPart))
    (ps : List Part) → map seen xs ≡ map (seen_in kept) ps → AllByRecursion (StandsIn [] t) ps →
    trace_at xs at ≡ Some trace → Found kept.base t at trace
found_in kept t at trace [] ps h stand found = cc
found_in kept t at trace (x ∷ xs) [] h stand found = cc
found_in kept t at trace (x ∷ xs) (p ∷ ps) h stand found =
    by (bytes_eq x.path at) refl found (alike kept x xs p ps h)
    (λ r g. found_in kept t at trace xs ps r stand.1 g)
  where
    by : (b : Bool) → bytes_eq x.path at ≡ b →
        (if b then Some x.value.trace else trace_at xs at) ≡ Some trace → Alike kept x xs p ps →
        (map seen xs ≡ map (seen_in kept) ps → trace_at xs at ≡ Some trace → Found kept.base t at trace) →
        Found kept.base t at trace
    by true q g a later =
        record {
          part = p;
          stands = stand.0;
          is_at = sym (ap (λ (s : Seen). s.path) a.first) ∙ (bytes_eq-Decides x.path at).0 q;
          comes = sym (ap (λ (s : Seen). s.trace) a.first) ∙ g;
        }
    by false q g a later = later a.others g

-- it supports the tree there
supported : (base : List ℕ) (t u : WideTree) (at below : List ℕ) (trace : WideTrace) (f : Found base t at trace) →
    below ≡ f.stands.below → subtree t below ≡ Some u → Supports trace (alone u)
supported base t u at below trace f is_below leads =
    let both : Some f.part.tree ≡ Some u = sym f.stands.leads ∙ ap (subtree t) (sym is_below) ∙ leads in
    let tree : f.part.tree ≡ u = cc in
    subst (λ v. Supports trace (alone v)) tree
    (supports f.part.levels f.part.steps (alone f.part.tree) f.part.before trace f.comes)

pub nothing_sound : (base : List ℕ) (t : WideTree) → IsSound (store_below base []) [] t
nothing_sound base t = record { holds = λ below u trace leads found. absurd (none_found trace found) }
  where
    none_found : (trace : WideTrace) → None ≡ Some trace → ⊥
    none_found trace h = cc

all_sound : (kept : Stores) (k c : ℕ) (t : WideTree) (e : Before) (xs : List (Entry CachedPart)) →
    map seen xs ≡ map (seen_in kept) (parts k c [] t e) → IsSound (store_below kept.base xs) [] t
all_sound kept k c t e xs h =
    record {
      holds = λ below u trace leads found.
          by below u trace leads
          (found_in kept t (kept.base ++ below) trace xs (parts k c [] t e) h
          (parts_by_stand no_shells k c [] t e) found);
    }
  where
    by : (below : List ℕ) (u : WideTree) (trace : WideTrace) → subtree t below ≡ Some u →
        Found kept.base t (kept.base ++ below) trace → Supports trace (alone u)
    by below u trace leads f =
        supported kept.base t u (kept.base ++ below) below trace f
        (append_cancel_left kept.base below f.part.path (sym f.is_at) ∙ f.stands.path_is) leads

pub returned_sound : (kept : Stores) (k c : ℕ) (t : WideTree) (e : Before) (o : Option WideTrace)
    (xs : List (Entry CachedPart)) → map seen xs ≡ seen_parts kept (parts k c [] t e) o →
    IsSound (store_below kept.base xs) [] t
returned_sound kept k c t e None [] h = nothing_sound kept.base t
returned_sound kept k c t e None (x ∷ xs) h = cc
returned_sound kept k c t e (Some trace) xs h = all_sound kept k c t e xs h
