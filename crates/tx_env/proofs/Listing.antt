-- Pairs put one by one into a list.
use Rattle.std.proofs.Common.{◌≡◌, Bool, false, true, [], ◌∷◌, ◌++◌, append_assoc, refl, sym, ap, ◌∙◌, subst}
use Rattle.std.proofs.lemmas.List.{append-nil}
use Rattle.std.proofs.lemmas.Map.Keys.{IsDistinct-head, IsDistinct-tail}
use Rattle.std.specs.Prelude.{Option, if◌then◌else◌}
use Rattle.std.specs.List.{AllByRecursion, IsDistinct}
use Rattle.std.specs.Map.{keys_of}
use Rattle.std.specs.Str.{bytes_eq}
use Rattle.std.specs.Cmp.Lexicographic.{bytes_decides}
use Rattle.indexmap.specs.IndexMap.{insert_all}
use Rattle.tx_tree.specs.WideTree.{WideTree}
use Rattle.tx_env.specs.Pairs.{Name, Pairs, put}

-- what was gone through and what is left are the whole
pub listed_next : (ps qs rest whole : Pairs) (x : Name × Option WideTree) → qs ≡ ps ++ x ∷ [] → ps ++ x ∷ rest ≡ whole
    → qs ++ rest ≡ whole
listed_next ps qs rest whole x e h = ap (λ us. us ++ rest) e ∙ append_assoc ps (x ∷ []) rest ∙ h

-- a name that differs from another
differ_by : (x y : Name) (b : Bool) → bytes_eq y x ≡ b → bytes_eq x y ≡ false → bytes_eq y x ≡ false
differ_by x y false e h = e
differ_by x y true e h =
    let yx = (bytes_decides y x).0 e in
    let xx = (bytes_decides x x).1 refl in
    absurd (cc)

differs : (x y : Name) → bytes_eq x y ≡ false → bytes_eq y x ≡ false
differs x y h = differ_by x y (bytes_eq y x) refl h

-- a name that no pair has is put at the end
put_last : (ps : Pairs) (x : Name) (t : Option WideTree) → AllByRecursion (λ y. bytes_eq y x ≡ false) (keys_of ps)
    → put x t ps ≡ ps ++ (x, t) ∷ []
put_last [] x t h = refl
put_last (p ∷ ps) x t h =
    ap (λ b. if b then (p.0, t) ∷ ps else p ∷ put x t ps) (differs p.0 x h.0) ∙ ap (λ us. p ∷ us) (put_last ps x t h.1)

-- where names differ, those before one differ from it
apart_at : (x : Name) (ps qs : Pairs) (q : Name × Option WideTree)
    → AllByRecursion (λ y. bytes_eq x y ≡ false) (keys_of (ps ++ q ∷ qs)) → bytes_eq x q.0 ≡ false
apart_at x [] qs q h = h.0
apart_at x (p ∷ ps) qs q h = apart_at x ps qs q h.1

apart_before : (ps qs : Pairs) (q : Name × Option WideTree) → IsDistinct bytes_eq (keys_of (ps ++ q ∷ qs))
    → AllByRecursion (λ y. bytes_eq y q.0 ≡ false) (keys_of ps)
apart_before [] qs q h = tt
apart_before (p ∷ ps) qs q h =
    let all = keys_of (ps ++ q ∷ qs) in (
      apart_at p.0 ps qs q (IsDistinct-head bytes_eq p.0 all h),
      apart_before ps qs q (IsDistinct-tail bytes_eq p.0 all h),
    )

all_after : (ps qs : Pairs) → IsDistinct bytes_eq (keys_of (ps ++ qs)) → insert_all bytes_eq ps qs ≡ ps ++ qs
all_after ps [] h = sym (append-nil ps)
all_after ps (q ∷ qs) h =
    ap (λ us. insert_all bytes_eq us qs) (put_last ps q.0 q.1 (apart_before ps qs q h))
    ∙ all_after (ps ++ q ∷ []) qs (subst (λ us. IsDistinct bytes_eq (keys_of us)) (sym (append_assoc ps (q ∷ []) qs)) h)
    ∙ append_assoc ps (q ∷ []) qs

-- pairs in which each name is listed once, put one by one into an empty list, are the same pairs
pub all_inserted : (ps : Pairs) → IsDistinct bytes_eq (keys_of ps) → insert_all bytes_eq [] ps ≡ ps
all_inserted ps h = all_after [] ps h
