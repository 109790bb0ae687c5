-- What a modification makes of a whole tree.
use Rattle.std.proofs.Common.{◌≡◌, ℕ, ◌+◌, ◌<◌, ◌≤◌, max, Bool, true, false, leb, List, [], ◌∷◌, length, drop, get_or}
use Rattle.std.proofs.Common.{Some, None, Ok, Err, refl, sym, ap, subst, ◌∙◌, arith}
use Rattle.std.specs.Prelude.{slice_get, IsOk, IsOkAnd}
use Rattle.std.specs.Option.{option_map_or}
use Rattle.std.proofs.lemmas.List.{drop_more}
use Rattle.std.proofs.lemmas.Bool.{le-leb, leb-true}
use Rattle.std.proofs.lemmas.Grind.{common_steps}
use Rattle.tx_tree.specs.Limits.{IsWithinLimits}
use Rattle.tx_tree.specs.Paths.{subtree, leading}
use Rattle.tx_tree.specs.WideTree.{WideTree, children_of, size_of, depth_of, arity_of, text_length_of}
use Rattle.tx_mod.specs.declared.faults.ModFault.{ModFault}
use Rattle.tx_mod.specs.declared.faults.ModFault.TheVariants.{NoPath, TooLong, TooWide, TooDeep, TooBig}
use Rattle.tx_mod.specs.declared.measures.Measure.{Measure}
use Rattle.tx_mod.specs.declared.mods.Mod.{Mod}
use Rattle.tx_mod.specs.Mods.{path_of, replaced}
use Rattle.tx_mod.specs.Changes.{Outcome, asking, changed_at, limited, put_back, changed}
use Rattle.tx_mod.specs.Measures.{IsPeak, HasMeasure}
use Rattle.tx_mod.proofs.Replacing.{aside, size_of_replaced, depth_of_replaced, text_of_replaced, text_in_replaced}
use Rattle.tx_mod.proofs.Replacing.{arity_of_replaced, arity_in_replaced, subtree_of_replaced, down}
use Rattle.tx_mod.specs.Inverses.{inverse_at, inverse_of}
use Rattle.tx_mod.proofs.Built.{child_within}

pub changed_is : (m : Mod) (t s v : WideTree) → subtree t (path_of m) ≡ Some s → changed_at m s ≡ Ok v
    → changed m t ≡ limited (replaced t (path_of m) v)
changed_is m t s v e f =
    ap (λ o. option_map_or (λ x. put_back t (path_of m) (changed_at m x)) o (Err (NoPath (leading t (path_of m))))) e
    ∙ ap (put_back t (path_of m)) f

pub changed_refused : (m : Mod) (t s : WideTree) (cause : ModFault) → subtree t (path_of m) ≡ Some s
    → changed_at m s ≡ Err cause → changed m t ≡ Err cause
changed_refused m t s cause e f =
    ap (λ o. option_map_or (λ x. put_back t (path_of m) (changed_at m x)) o (Err (NoPath (leading t (path_of m))))) e
    ∙ ap (put_back t (path_of m)) f

pub changed_nowhere : (m : Mod) (t : WideTree) → subtree t (path_of m) ≡ None
    → changed m t ≡ Err (NoPath (leading t (path_of m)))
changed_nowhere m t e =
    ap (λ o. option_map_or (λ x. put_back t (path_of m) (changed_at m x)) o (Err (NoPath (leading t (path_of m))))) e

-- ---- limits

past : (n most : ℕ) → most < n → leb n most ≡ false
past n most lt = grind arith

limited_long : (u : WideTree) → 1048575 < text_length_of u → limited u ≡ Err (TooLong (text_length_of u))
limited_long u lt =
    ap (λ b. asking b (TooLong (text_length_of u))
    (asking (leb (arity_of u) 65535) (TooWide (arity_of u))
    (asking (leb (depth_of u) 400) (TooDeep (depth_of u))
    (asking (leb (size_of u) 8000000) (TooBig (size_of u)) (Ok u)))))
    (past (text_length_of u) 1048575 lt)

limited_short : (u : WideTree) → text_length_of u ≤ 1048575
    → limited u ≡ asking (leb (arity_of u) 65535) (TooWide (arity_of u))
    (asking (leb (depth_of u) 400) (TooDeep (depth_of u))
    (asking (leb (size_of u) 8000000) (TooBig (size_of u)) (Ok u)))
limited_short u le =
    ap (λ b. asking b (TooLong (text_length_of u))
    (asking (leb (arity_of u) 65535) (TooWide (arity_of u))
    (asking (leb (depth_of u) 400) (TooDeep (depth_of u))
    (asking (leb (size_of u) 8000000) (TooBig (size_of u)) (Ok u)))))
    (le-leb (text_length_of u) 1048575 le)

limited_wide : (u : WideTree) → text_length_of u ≤ 1048575 → 65535 < arity_of u → limited u ≡ Err (TooWide (arity_of u))
limited_wide u le lt =
    limited_short u le
    ∙ ap (λ b. asking b (TooWide (arity_of u))
    (asking (leb (depth_of u) 400) (TooDeep (depth_of u))
    (asking (leb (size_of u) 8000000) (TooBig (size_of u)) (Ok u)))) (past (arity_of u) 65535 lt)

limited_narrow : (u : WideTree) → text_length_of u ≤ 1048575 → arity_of u ≤ 65535
    → limited u ≡ asking (leb (depth_of u) 400) (TooDeep (depth_of u))
    (asking (leb (size_of u) 8000000) (TooBig (size_of u)) (Ok u))
limited_narrow u le le' =
    limited_short u le
    ∙ ap (λ b. asking b (TooWide (arity_of u))
    (asking (leb (depth_of u) 400) (TooDeep (depth_of u))
    (asking (leb (size_of u) 8000000) (TooBig (size_of u)) (Ok u)))) (le-leb (arity_of u) 65535 le')

limited_deep : (u : WideTree) → text_length_of u ≤ 1048575 → arity_of u ≤ 65535 → 400 < depth_of u
    → limited u ≡ Err (TooDeep (depth_of u))
limited_deep u le le' lt =
    limited_narrow u le le'
    ∙ ap (λ b. asking b (TooDeep (depth_of u)) (asking (leb (size_of u) 8000000) (TooBig (size_of u)) (Ok u)))
    (past (depth_of u) 400 lt)

limited_big : (u : WideTree) → text_length_of u ≤ 1048575 → arity_of u ≤ 65535 → depth_of u ≤ 400 → 8000000 < size_of u
    → limited u ≡ Err (TooBig (size_of u))
limited_big u le le' d lt =
    limited_narrow u le le'
    ∙ ap (λ b. asking b (TooDeep (depth_of u)) (asking (leb (size_of u) 8000000) (TooBig (size_of u)) (Ok u)))
    (le-leb (depth_of u) 400 d)
    ∙ ap (λ b. asking b (TooBig (size_of u)) (Ok u)) (past (size_of u) 8000000 lt)

pub limited_ok : (u : WideTree) → IsWithinLimits u → limited u ≡ Ok u
limited_ok u w =
    limited_narrow u w.text w.arity
    ∙ ap (λ b. asking b (TooDeep (depth_of u)) (asking (leb (size_of u) 8000000) (TooBig (size_of u)) (Ok u)))
    (le-leb (depth_of u) 400 w.depth)
    ∙ ap (λ b. asking b (TooBig (size_of u)) (Ok u)) (le-leb (size_of u) 8000000 w.size)

-- ---- from the measure of the changed subtree to the limits of the whole tree

whole_peak : (most n peak old new : ℕ) → IsPeak most n peak → old ≤ most → peak ≤ new → new ≤ max old peak
    → IsPeak most n new
whole_peak most n peak old new h le low high =
    record { within = λ w. omega (arith, h.within w); past = λ p. omega (arith, h.past p) }

pub whole_text : (m : Mod) (t s : WideTree) (a : Measure) (e : subtree t (path_of m) ≡ Some s)
    (h : HasMeasure (changed_at m s) a) → IsWithinLimits t
    → IsPeak 1048575 a.text (text_length_of (replaced t (path_of m) h.tree))
whole_text m t s a e h w =
    whole_peak 1048575 a.text (text_length_of h.tree) (text_length_of t) _ h.text w.text
    (text_in_replaced (path_of m) t s h.tree e) (text_of_replaced (path_of m) t s h.tree e)

pub whole_arity : (m : Mod) (t s : WideTree) (a : Measure) (e : subtree t (path_of m) ≡ Some s)
    (h : HasMeasure (changed_at m s) a) → IsWithinLimits t
    → IsPeak 65535 a.arity (arity_of (replaced t (path_of m) h.tree))
whole_arity m t s a e h w =
    whole_peak 65535 a.arity (arity_of h.tree) (arity_of t) _ h.arity w.arity
    (arity_in_replaced (path_of m) t s h.tree e) (arity_of_replaced (path_of m) t s h.tree e)

pub too_long : (m : Mod) (t s : WideTree) (a : Measure) → subtree t (path_of m) ≡ Some s → HasMeasure (changed_at m s) a
    → IsWithinLimits t → 1048575 < a.text → changed m t ≡ Err (TooLong a.text)
too_long m t s a e h w lt =
    let u : WideTree = replaced t (path_of m) h.tree in
    let is : text_length_of u ≡ a.text = (whole_text m t s a e h w).past lt in
    changed_is m t s h.tree e h.is ∙ limited_long u (omega arith) ∙ ap (λ n. Err (TooLong n)) is

pub too_wide : (m : Mod) (t s : WideTree) (a : Measure) → subtree t (path_of m) ≡ Some s → HasMeasure (changed_at m s) a
    → IsWithinLimits t → a.text ≤ 1048575 → 65535 < a.arity
    → changed m t ≡ Err (TooWide a.arity)
too_wide m t s a e h w short lt =
    let u : WideTree = replaced t (path_of m) h.tree in
    let is : arity_of u ≡ a.arity = (whole_arity m t s a e h w).past lt in
    changed_is m t s h.tree e h.is ∙ limited_wide u ((whole_text m t s a e h w).within short) (omega arith)
    ∙ ap (λ n. Err (TooWide n)) is

pub too_deep : (m : Mod) (t s : WideTree) (a : Measure) (depth : ℕ) → subtree t (path_of m) ≡ Some s
    → HasMeasure (changed_at m s) a → IsWithinLimits t → a.text ≤ 1048575 → a.arity ≤ 65535
    → ((v : WideTree) → depth_of v ≡ a.depth → depth_of (replaced t (path_of m) v) ≡ depth) → 400 < depth
    → changed m t ≡ Err (TooDeep depth)
too_deep m t s a depth e h w short narrow deep lt =
    let u : WideTree = replaced t (path_of m) h.tree in
    let is : depth_of u ≡ depth = deep h.tree (sym h.depth) in
    changed_is m t s h.tree e h.is
    ∙ limited_deep u ((whole_text m t s a e h w).within short) ((whole_arity m t s a e h w).within narrow)
    (omega arith) ∙ ap (λ n. Err (TooDeep n)) is

pub too_big : (m : Mod) (t s : WideTree) (a : Measure) (depth size : ℕ) → subtree t (path_of m) ≡ Some s
    → HasMeasure (changed_at m s) a → IsWithinLimits t → a.text ≤ 1048575 → a.arity ≤ 65535
    → ((v : WideTree) → depth_of v ≡ a.depth → depth_of (replaced t (path_of m) v) ≡ depth) → depth ≤ 400
    → size + size_of s ≡ size_of t + a.size → 8000000 < size → changed m t ≡ Err (TooBig size)
too_big m t s a depth size e h w short narrow deep le sized lt =
    let u : WideTree = replaced t (path_of m) h.tree in
    let shallow : depth_of u ≡ depth = deep h.tree (sym h.depth) in
    let is : size_of u ≡ size = omega (arith, size_of_replaced (path_of m) t s h.tree e, h.size, sized) in
    changed_is m t s h.tree e h.is
    ∙ limited_big u ((whole_text m t s a e h w).within short) ((whole_arity m t s a e h w).within narrow)
    (omega arith) (omega arith) ∙ ap (λ n. Err (TooBig n)) is

pub all_within : (m : Mod) (t s : WideTree) (a : Measure) (depth size : ℕ) → subtree t (path_of m) ≡ Some s
    → HasMeasure (changed_at m s) a → IsWithinLimits t → a.text ≤ 1048575 → a.arity ≤ 65535
    → ((v : WideTree) → depth_of v ≡ a.depth → depth_of (replaced t (path_of m) v) ≡ depth) → depth ≤ 400
    → size + size_of s ≡ size_of t + a.size → size ≤ 8000000 → IsOk (changed m t)
all_within m t s a depth size e h w short narrow deep le sized small =
    let u : WideTree = replaced t (path_of m) h.tree in
    let shallow : depth_of u ≡ depth = deep h.tree (sym h.depth) in
    let is : size_of u ≡ size = omega (arith, size_of_replaced (path_of m) t s h.tree e, h.size, sized) in
    let within : IsWithinLimits u =
    record {
      text = (whole_text m t s a e h w).within short;
      arity = (whole_arity m t s a e h w).within narrow;
      depth = omega arith;
      size = omega arith;
    } in
    rw (changed_is m t s h.tree e h.is, limited_ok u within) refl

-- ---- the depth, step by step down the path

pub depth_step : (t c v : WideTree) (path : List ℕ) (k : ℕ) (beside beside' whole : ℕ) → k < length path
    → slice_get (children_of t) (get_or path k 0) ≡ Some c
    → beside' ≡ max beside (k + 1 + aside t (get_or path k 0))
    → max beside (k + depth_of (replaced t (drop k path) v)) ≡ whole
    → max beside' (k + 1 + depth_of (replaced c (drop (k + 1) path) v)) ≡ whole
depth_step t c v path k beside beside' whole lt found step before =
    let here : depth_of (replaced t (drop k path) v) ≡ 1 + max (aside t (get_or path k 0))
    (depth_of (replaced c (drop (k + 1) path) v)) =
    ap (λ p. depth_of (replaced t p v)) (drop_more path k 0 lt)
    ∙ depth_of_replaced t c v (get_or path k 0) (drop (k + 1) path) found in
    omega (arith, step, before, here)

-- ---- where a modification makes something of a tree

asked_any : (b : Bool) (cause : ModFault) (o : Outcome) → IsOk (asking b cause o) → (b ≡ true) × IsOk o
asked_any true cause o h = (refl, h)
asked_any false cause o h = absurd (cc)

pub limited_within : (u : WideTree) → IsOk (limited u) → IsWithinLimits u
limited_within u h =
    let a = asked_any (leb (text_length_of u) 1048575) (TooLong (text_length_of u)) _ h in
    let b = asked_any (leb (arity_of u) 65535) (TooWide (arity_of u)) _ a.1 in
    let c = asked_any (leb (depth_of u) 400) (TooDeep (depth_of u)) _ b.1 in
    let d = asked_any (leb (size_of u) 8000000) (TooBig (size_of u)) _ c.1 in
    record { text = leb-true _ _ a.0; arity = leb-true _ _ b.0; depth = leb-true _ _ c.0; size = leb-true _ _ d.0 }

-- what is known of a change that is made
pub record IsChange (m : Mod) (t s : WideTree) : Type 0 where
  pub made : WideTree
  pub at : changed_at m s ≡ Ok made
  pub within : IsWithinLimits (replaced t (path_of m) made)
  pub is : changed m t ≡ Ok (replaced t (path_of m) made)
  pub small : IsWithinLimits made

pub path_within : (path : List ℕ) (t s : WideTree) → subtree t path ≡ Some s → IsWithinLimits t → IsWithinLimits s
path_within [] t s e w = let same : t ≡ s = cc in subst IsWithinLimits same w
path_within (i ∷ path) t s e w = let d = down t i path s e in
    path_within path d.child s d.further (child_within t d.child i d.found w)

pub change : (m : Mod) (t s : WideTree) → subtree t (path_of m) ≡ Some s → IsOk (changed m t) → IsChange m t s
change m t s e h = change_of (changed_at m s) refl
  where
    change_of : (o : Outcome) → changed_at m s ≡ o → IsChange m t s
    change_of (Ok v) f =
        let within : IsWithinLimits (replaced t (path_of m) v) =
        limited_within (replaced t (path_of m) v) (subst IsOk (changed_is m t s v e f) h) in
        record {
          made = v;
          at = f;
          within = within;
          is = changed_is m t s v e f ∙ limited_ok (replaced t (path_of m) v) within;
          small = path_within (path_of m) (replaced t (path_of m) v) v (subtree_of_replaced (path_of m) t s v e) within;
        }
    change_of (Err cause) f = let no = subst IsOk (changed_refused m t s cause e f) h in absurd (cc)

pub change_requires : (m : Mod) (t s : WideTree) (path : List ℕ) → path ≡ path_of m → subtree t path ≡ Some s
    → IsOk (changed m t) → IsOkAnd (changed_at m s) IsWithinLimits
change_requires m t s path p e h = let c = change m t s (subst (λ q. subtree t q ≡ Some s) p e) h in
    subst (λ o. IsOkAnd o IsWithinLimits) (sym c.at) c.small

pub change_within : (m : Mod) (t s v : WideTree) (path : List ℕ) → path ≡ path_of m → subtree t path ≡ Some s
    → IsOk (changed m t) → changed_at m s ≡ Ok v → IsWithinLimits (replaced t path v)
change_within m t s v path p e h at =
    let c = change m t s (subst (λ q. subtree t q ≡ Some s) p e) h in
    let same : c.made ≡ v = same_made c.made v (sym c.at ∙ at) in
    rw (p, ← same) c.within
  where
    same_made : (a b : WideTree) → ◌≡◌ {A = Outcome} (Ok a) (Ok b) → a ≡ b
    same_made a b f = cc

pub change_is : (m : Mod) (t s v u : WideTree) (path : List ℕ) → path ≡ path_of m → subtree t path ≡ Some s
    → IsOk (changed m t) → changed_at m s ≡ Ok v → u ≡ replaced t path v → changed m t ≡ Ok u
change_is m t s v u path p e h at is =
    let c = change m t s (subst (λ q. subtree t q ≡ Some s) p e) h in
    let same : c.made ≡ v = same_made c.made v (sym c.at ∙ at) in
    c.is ∙ ap (λ x. Ok (replaced t (path_of m) x)) same ∙ ap (λ q. Ok (replaced t q v)) (sym p)
    ∙ ap (λ x. Ok x) (sym is)
  where
    same_made : (a b : WideTree) → ◌≡◌ {A = Outcome} (Ok a) (Ok b) → a ≡ b
    same_made a b f = cc

pub no_change : (m : Mod) (t : WideTree) (path : List ℕ) → path ≡ path_of m → subtree t path ≡ None → IsOk (changed m t)
    → ⊥
no_change m t path p e h = let no = subst IsOk (changed_nowhere m t (subst (λ q. subtree t q ≡ None) p e)) h in
    absurd (cc)

pub inverse_is : (m : Mod) (t s : WideTree) (path : List ℕ) → path ≡ path_of m → subtree t path ≡ Some s
    → inverse_of m t ≡ inverse_at m s
inverse_is m t s path p e = ap (λ o. option_map_or (inverse_at m) o m) (subst (λ q. subtree t q ≡ Some s) p e)

pub ruleset change_rules = (change_within, change_is, common_steps)

pub ruleset inverse_rules = (inverse_is, no_change, common_steps)
