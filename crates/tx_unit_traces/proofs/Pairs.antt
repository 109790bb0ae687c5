-- Pairs in which no name occurs twice, and their map.
use Rattle.std.proofs.Common.{◌≡◌, Bool, true, false, cond, List, [], ◌∷◌, refl, sym, ap, ◌∙◌}
use Rattle.std.specs.Prelude.{Option, Some, None, T, ◌&&◌}
use Rattle.std.specs.List.{IsDistinct, AllByRecursion}
use Rattle.std.specs.Map.{keys_of}
use Rattle.std.specs.Str.{bytes_eq}
use Rattle.std.specs.Ordering.{nat_cmp, is_lt, is_eq}
use Rattle.std.specs.declared.cmp.Ordering.{Ordering}
use Rattle.std.specs.declared.cmp.Ordering.TheVariants.{Less, Equal, Greater}
use Rattle.std.specs.Cmp.Lexicographic.{slice_cmp, texts_ties}
use Rattle.std.specs.FinMap.{find, is_sorted}
use Rattle.std.specs.FinMap.Entries.{below_all}
use Rattle.tx_env.specs.Pairs.{Name}

less_alone : (o : Ordering) → T (is_lt o) → is_eq o ≡ false
less_alone Less h = refl
less_alone Equal h = absurd h
less_alone Greater h = refl

first : (a b : Bool) → T (a && b) → T a
first true b h = tt
first false b h = h

second : (a b : Bool) → T (a && b) → T b
second true b h = h
second false b h = absurd h

module _ {X : Type 0} where
  abbrev pub found : Name → List (Name × X) → Option X
  found q ws = find (slice_cmp nat_cmp) q ws

  -- no name occurs twice
  abbrev pub AreOnce : List (Name × X) → Type 0
  AreOnce [] = Unit {0}
  AreOnce (w ∷ ws) = (found w.0 ws ≡ None) × AreOnce ws

  not_among : (x : Name) (ws : List (Name × X)) → AllByRecursion (λ y. bytes_eq x y ≡ false) (keys_of ws)
      → found x ws ≡ None
  not_among x [] h = refl
  not_among x (w ∷ ws) h =
      ap (λ b. cond b (Some w.1) (found x ws)) (sym (texts_ties x w.0) ∙ h.0) ∙ not_among x ws h.1

  pub once : (ws : List (Name × X)) → IsDistinct bytes_eq (keys_of ws) → AreOnce ws
  unfolding IsDistinct
  once [] h = tt
  once (w ∷ ws) h = (not_among w.0 ws h.0, once ws h.1)

  below : (x : Name) (ws : List (Name × X)) → T (below_all (slice_cmp nat_cmp) x ws) → found x ws ≡ None
  below x [] h = refl
  below x (w ∷ ws) h =
      ap (λ b. cond b (Some w.1) (found x ws))
      (less_alone (slice_cmp nat_cmp x w.0)
      (first (is_lt (slice_cmp nat_cmp x w.0)) (below_all (slice_cmp nat_cmp) x ws) h))
      ∙ below x ws (second (is_lt (slice_cmp nat_cmp x w.0)) (below_all (slice_cmp nat_cmp) x ws) h)

  pub rising : (ws : List (Name × X)) → T (is_sorted (slice_cmp nat_cmp) ws) → AreOnce ws
  rising [] h = tt
  rising (w ∷ ws) h = (
    below w.0 ws (first (below_all (slice_cmp nat_cmp) w.0 ws) (is_sorted (slice_cmp nat_cmp) ws) h),
    rising ws (second (below_all (slice_cmp nat_cmp) w.0 ws) (is_sorted (slice_cmp nat_cmp) ws) h),
  )
