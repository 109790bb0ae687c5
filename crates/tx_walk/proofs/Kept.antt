-- What a walk returned can be cached for the next one, whatever shells trees have.
use Rattle.std.proofs.Common.{◌≡◌, ℕ, List, [], ◌∷◌, ◌++◌, map, refl, ap, sym, subst, ◌∙◌}
use Rattle.std.proofs.lemmas.List.{append_cancel_left}
use Rattle.std.proofs.lemmas.Slice.Eq.{bytes_eq-Decides}
use Rattle.std.specs.Prelude.{Bool, true, false, Some, None, if◌then◌else◌}
use Rattle.std.specs.List.{IsDistinct, AllByRecursion}
use Rattle.std.specs.Str.{bytes_eq}
use Rattle.tx_tree.specs.WideTree.{WideTree}
use Rattle.tx_tree.specs.Paths.{subtree}
use Rattle.tx_exec_form.specs.Runs.{Before}
use Rattle.tx_exec_form.specs.Evaluated.{WideTrace}
use Rattle.tx_exec_form.specs.Laws.{Supports}
use Rattle.tx_exec_form.proofs.Tracing.{supports}
use Rattle.tx_exec.specs.Outcomes.{wide_trace}
use Rattle.tx_parts.specs.Composed.{alone}
use Rattle.tx_parts.specs.Opening.{Sheller}
use Rattle.tx_parts.specs.Parts.{Part, parts_by, part_trace}
use Rattle.tx_parts.specs.Standing.{StandsIn}
use Rattle.tx_parts.proofs.Standing.{parts_by_stand, parts_by_differ}
use Rattle.tx_walk.specs.declared.part.Part.{Part as DonePart}
use Rattle.tx_walk.specs.Held.{Store, Stores, IsSound, AreSound, only}
use Rattle.tx_walk.specs.Walked.{Seen, seen, seen_in, kept_in, paths_of}

-- the first of each and the others
pub record Alike (kept : Stores) (d : DonePart) (ds : List DonePart) (p : Part) (ps : List Part) : Type 0 where
  pub first : seen d ≡ seen_in kept p
  pub others : map seen ds ≡ map (seen_in kept) ps

pub alike : (kept : Stores) (d : DonePart) (ds : List DonePart) (p : Part) (ps : List Part) →
    map seen (d ∷ ds) ≡ map (seen_in kept) (p ∷ ps) → Alike kept d ds p ps
alike kept d ds p ps h = record { first = ap (head (seen d)) h; others = ap tail h }
  where
    head : Seen → List Seen → Seen
    head s [] = s
    head s (x ∷ xs) = x

    tail : List Seen → List Seen
    tail [] = []
    tail (x ∷ xs) = xs

-- the cached part at a path
pub record Found (path : List ℕ) (t : WideTree) (at : List ℕ) (trace : WideTrace) : Type 0 where
  pub part : Part
  pub stands : StandsIn path t part
  pub is_at : part.path ≡ at
  pub comes : part_trace part ≡ Some trace

found_in : (kept : Stores) (path : List ℕ) (t : WideTree) (at : List ℕ) (trace : WideTrace) (ds : List DonePart)
    (ps : List Part) → map seen ds ≡ map (seen_in kept) ps → AllByRecursion (StandsIn path t) ps →
    kept_in ds at ≡ Some trace → Found path t at trace
found_in kept path t at trace [] ps h stand found = cc
found_in kept path t at trace (d ∷ ds) [] h stand found = cc
found_in kept path t at trace (d ∷ ds) (p ∷ ps) h stand found =
    by (bytes_eq d.path at) refl found (alike kept d ds p ps h)
    (λ r g. found_in kept path t at trace ds ps r stand.1 g)
  where
    by : (b : Bool) → bytes_eq d.path at ≡ b →
        (if b then Some (wide_trace d.trace) else kept_in ds at) ≡ Some trace → Alike kept d ds p ps →
        (map seen ds ≡ map (seen_in kept) ps → kept_in ds at ≡ Some trace → Found path t at trace) →
        Found path t at trace
    by true q g a later =
        record {
          part = p;
          stands = stand.0;
          is_at = sym (ap (λ (s : Seen). s.path) a.first) ∙ (bytes_eq-Decides d.path at).0 q;
          comes = sym (ap (λ (s : Seen). s.trace) a.first) ∙ g;
        }
    by false q g a later = later a.others g

-- it supports the tree there
supported : (path : List ℕ) (t u : WideTree) (at below : List ℕ) (trace : WideTrace) (f : Found path t at trace) →
    below ≡ f.stands.below → subtree t below ≡ Some u → Supports trace (alone u)
supported path t u at below trace f is_below leads =
    let both : Some f.part.tree ≡ Some u = sym f.stands.leads ∙ ap (subtree t) (sym is_below) ∙ leads in
    let tree : f.part.tree ≡ u = cc in
    subst (λ v. Supports trace (alone v)) tree
    (supports f.part.levels f.part.steps (alone f.part.tree) f.part.before trace f.comes)

pub walked_sound : (kept : Stores) (sheller : Sheller) (k c : ℕ) (path : List ℕ) (t : WideTree) (e : Before)
    (ds : List DonePart) → map seen ds ≡ map (seen_in kept) (parts_by sheller k c path t e) →
    IsSound (kept_in ds) path t
walked_sound kept sheller k c path t e ds h =
    record {
      holds = λ below u trace leads found.
          by below u trace leads
          (found_in kept path t (path ++ below) trace ds (parts_by sheller k c path t e) h
          (parts_by_stand sheller k c path t e) found);
    }
  where
    by : (below : List ℕ) (u : WideTree) (trace : WideTrace) → subtree t below ≡ Some u →
        Found path t (path ++ below) trace → Supports trace (alone u)
    by below u trace leads f =
        supported path t u (path ++ below) below trace f
        (append_cancel_left path below f.stands.below (sym f.is_at ∙ f.stands.path_is)) leads

pub sound_none : (t : WideTree) → IsSound (kept_in []) [] t
sound_none t = record { holds = λ below u trace leads found. absurd (none_found trace found) }
  where
    none_found : (trace : WideTrace) → None ≡ Some trace → ⊥
    none_found trace h = cc

pub none_twice : IsDistinct bytes_eq (paths_of [])
unfolding IsDistinct
none_twice = tt

pub sound_alone : (kept : Store) (t : WideTree) → IsSound kept [] t → AreSound (only kept) [] t
sound_alone kept t sound = record { own = sound; spare = sound_none t }

paths_are : (kept : Stores) (ds : List DonePart) (ps : List Part) → map seen ds ≡ map (seen_in kept) ps →
    paths_of ds ≡ map (λ p. p.path) ps
paths_are kept [] [] h = refl
paths_are kept [] (p ∷ ps) h = cc
paths_are kept (d ∷ ds) [] h = cc
paths_are kept (d ∷ ds) (p ∷ ps) h =
    (λ (a : Alike kept d ds p ps). ap (λ x. x ∷ paths_of ds) (ap (λ (s : Seen). s.path) a.first)
    ∙ ap (λ xs. p.path ∷ xs) (paths_are kept ds ps a.others))
    (alike kept d ds p ps h)

pub walked_distinct : (kept : Stores) (sheller : Sheller) (k c : ℕ) (path : List ℕ) (t : WideTree) (e : Before)
    (ds : List DonePart) → map seen ds ≡ map (seen_in kept) (parts_by sheller k c path t e) →
    IsDistinct bytes_eq (paths_of ds)
walked_distinct kept sheller k c path t e ds h =
    subst (IsDistinct bytes_eq) (sym (paths_are kept ds (parts_by sheller k c path t e) h))
    (parts_by_differ sheller k c path t e)
