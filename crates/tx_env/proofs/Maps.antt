-- Pairs as a finite map.
use Rattle.std.proofs.Common.{◌≡◌, cond, [], ◌∷◌, sym, ap, ◌∙◌}
use Rattle.std.specs.Prelude.{Option, Some, None, if◌then◌else◌}
use Rattle.std.specs.Str.{bytes_eq}
use Rattle.std.specs.Ordering.{nat_cmp}
use Rattle.std.specs.Cmp.Lexicographic.{slice_cmp, nat_list_cmp_total, texts_ties}
use Rattle.std.specs.FinMap.{get, get-empty, get-insert, get-remove, same_map, nat_cmp-IsAntisymmetric}
use Rattle.std.specs.FinMap.{slice_cmp-IsAntisymmetric}
use Rattle.tx_tree.specs.WideTree.{WideTree}
use Rattle.tx_env.specs.Pairs.{Name, Pairs, find, put, listed}
use Rattle.tx_env.specs.Environments.{NameMap}
use Rattle.tx_env.specs.Changes.{with_pair, map_of, AreSame}
use Rattle.tx_env.proofs.Finding.{joined_cond, find_put}

-- maps in which each name has the same are equal
pub equal_maps : (m n : NameMap) → ((y : Name) → get m y ≡ get n y) → m ≡ n
equal_maps m n h = same_map nat_list_cmp_total (slice_cmp-IsAntisymmetric nat_cmp-IsAntisymmetric) m n h

pub get_with : (x y : Name) (t : Option WideTree) (m : NameMap)
    → get (with_pair x t m) y ≡ (if bytes_eq y x then t else get m y)
get_with x y None m = get-remove nat_list_cmp_total m x y ∙ ap (λ b. cond b None (get m y)) (sym (texts_ties y x))
get_with x y (Some t) m =
    get-insert nat_list_cmp_total m x t y ∙ ap (λ b. cond b (Some t) (get m y)) (sym (texts_ties y x))

pub get_map : (ps : Pairs) (y : Name) → get (map_of ps) y ≡ find y ps
get_map [] y = get-empty (slice_cmp nat_cmp) y
get_map ((x, t) ∷ ps) y =
    get_with x y t (map_of ps) ∙ ap (λ o. cond (bytes_eq y x) t o) (get_map ps y)
    ∙ sym (joined_cond (bytes_eq y x) t (listed y ps))

pub same_maps : (ps qs : Pairs) → AreSame ps qs → map_of ps ≡ map_of qs
same_maps ps qs h = equal_maps _ _ (λ y. get_map ps y ∙ h y ∙ sym (get_map qs y))

pub map_put : (x : Name) (t : Option WideTree) (ps : Pairs) → map_of (put x t ps) ≡ with_pair x t (map_of ps)
map_put x t ps =
    equal_maps _ _
    (λ y. get_map (put x t ps) y ∙ find_put x y t ps ∙ ap (λ o. cond (bytes_eq y x) t o) (sym (get_map ps y))
    ∙ sym (get_with x y t (map_of ps)))

pub ruleset map_rules = (get_map, map_put)
