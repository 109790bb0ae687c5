-- Names that are set from pairs in which no name is twice.
use Rattle.std.proofs.Common.{◌≡◌, Bool, true, false, cond, List, [], ◌∷◌, refl, sym, ap, ◌∙◌}
use Rattle.std.specs.Prelude.{Some}
use Rattle.std.specs.Option.{option_or}
use Rattle.std.specs.List.{IsDistinct}
use Rattle.std.specs.Map.{keys_of}
use Rattle.std.specs.Str.{bytes_eq}
use Rattle.std.specs.Ordering.{nat_cmp, eq_by_cmp}
use Rattle.std.specs.Cmp.Lexicographic.{slice_cmp, nat_list_cmp_total, texts_ties, bytes_decides}
use Rattle.std.specs.FinMap.{get, insert, entries, entries_sorted, from_entries, get-insert, get-entries}
use Rattle.std.specs.FinMap.{get-from_entries}
use Rattle.tx_tree.specs.WideTree.{WideTree}
use Rattle.tx_env.specs.Pairs.{Name}
use Rattle.tx_env.specs.Environments.{NameMap, overlaid}
use Rattle.tx_env.proofs.Maps.{equal_maps}
use Rattle.tx_unit_traces.proofs.Pairs.{found, AreOnce, once, rising}

-- what is set last counts, and else what was there
got : (m : NameMap) (ws : List (Name × WideTree)) (q : Name) → AreOnce ws
    → get (overlaid m ws) q ≡ option_or (found q ws) (get m q)
got m [] q h = refl
got m (w ∷ ws) q h =
    got (insert m w.0 w.1) ws q h.1 ∙ ap (option_or (found q ws)) (get-insert nat_list_cmp_total m w.0 w.1 q)
    ∙ by (eq_by_cmp (slice_cmp nat_cmp) q w.0) refl
  where
    by : (b : Bool) → eq_by_cmp (slice_cmp nat_cmp) q w.0 ≡ b
        → option_or (found q ws) (cond b (Some w.1) (get m q)) ≡ option_or (cond b (Some w.1) (found q ws)) (get m q)
    by true e =
        let same_name : q ≡ w.0 = (bytes_decides q w.0).0 (texts_ties q w.0 ∙ e) in
        ap (λ o. option_or o (Some w.1)) (ap (λ p. found p ws) same_name ∙ h.0)
    by false e = refl

-- names are set from pairs or from their map, which is the same
pub overlaid_same : (m : NameMap) (ws : List (Name × WideTree)) → IsDistinct bytes_eq (keys_of ws)
    → overlaid m ws ≡ overlaid m (entries (from_entries {R = slice_cmp nat_cmp} ws))
overlaid_same m ws h =
    equal_maps _ _ (λ q. got m ws q (once ws h)
    ∙ ap (λ o. option_or o (get m q)) (sym (get-from_entries nat_list_cmp_total ws q) ∙ get-entries (from_entries ws) q)
    ∙ sym (got m (entries (from_entries ws)) q (rising (entries (from_entries ws)) (entries_sorted (from_entries ws)))))
