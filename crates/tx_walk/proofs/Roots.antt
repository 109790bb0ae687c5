-- The tree of a unit, which is at the root's origin.
use Rattle.std.proofs.Common.{◌≡◌, ℕ, List, [], ◌∷◌, ◌++◌, map, length, refl, ap, sym, ◌∙◌, arith}
use Rattle.std.specs.Prelude.{Option, Some, None}
use Rattle.std.specs.Option.{option_map}
use Rattle.tx_exec_form.specs.Evaluated.{WideTrace}
use Rattle.tx_origin.specs.Values.{WideValue}
use Rattle.tx_origin.specs.Under.{value_under}
use Rattle.tx_origin.proofs.Under.{under_none}
use Rattle.tx_parts.specs.Parts.{Part}
use Rattle.tx_walk.specs.declared.part.Part.{Part as DonePart}
use Rattle.tx_walk.specs.Held.{Stores}
use Rattle.tx_walk.specs.Walked.{seen, seen_in, seen_parts}
use Rattle.tx_walk.specs.Steps.{trace_under, IsAdded, parts_if_done}

none_under : (o : Option WideTrace) → option_map (trace_under []) o ≡ o
none_under None = refl
none_under (Some trace) =
    ap (λ v. Some (record {
      value = v;
      looks = trace.looks;
      writes = trace.writes;
      cost = trace.cost;
      height = trace.height;
    })) (under_none trace.value)

pub at_root : (base : List ℕ) (o r : Option WideTrace) → base ≡ [] → r ≡ option_map (trace_under base) o → r ≡ o
at_root base o r e h = h ∙ ap (λ p. option_map (trace_under p) o) e ∙ none_under o

pub all_seen : (kept : Stores) (ps : List Part) (old new : List DonePart) (o : Option WideTrace) → old ≡ [] →
    IsAdded kept ps old new o → map seen (parts_if_done o new) ≡ seen_parts kept ps o
all_seen kept ps old new None e h = refl
all_seen kept ps old new (Some trace) e h = h ∙ ap (λ us. map seen us ++ map (seen_in kept) ps) e

-- under the path of the root a value is unchanged
pub same_at_root : (path ns : List ℕ) (v : WideValue) → ns ≡ path → length ns ≡ 0 → v ≡ value_under path v
same_at_root [] ns v e h = sym (under_none v)
same_at_root (i ∷ path) ns v e h =
    let count : length ns ≡ length (i ∷ path) = ap length e in
    absurd (omega (arith, h, count))
