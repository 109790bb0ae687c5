-- What is found after something was put.
use Rattle.std.proofs.Common.{◌≡◌, Bool, true, false, cond, [], ◌∷◌, refl, sym, ap, ◌∙◌, subst}
use Rattle.std.specs.Prelude.{Option, Some, IsSome, if◌then◌else◌}
use Rattle.std.specs.Str.{bytes_eq}
use Rattle.std.specs.Cmp.Lexicographic.{bytes_decides}
use Rattle.tx_tree.specs.WideTree.{WideTree}
use Rattle.tx_env.specs.Pairs.{Name, Pairs, flattened, listed, find, put}
use Rattle.tx_env.specs.Changes.{AreSame}

-- what is listed at y after the pair of z, where x was put
listed_in : (x y z : Name) (t u : Option WideTree) (ps : Pairs) (b c d : Bool) → b ≡ bytes_eq x z → c ≡ bytes_eq y z
    → d ≡ bytes_eq y x
    → listed y (put x t ps) ≡ cond d (Some t) (listed y ps)
    → cond c (Some (cond b t u)) (cond b (listed y ps) (listed y (put x t ps))) ≡
    cond d (Some t) (cond c (Some u) (listed y ps))
listed_in x y z t u ps true true true p q r h = refl
listed_in x y z t u ps true true false p q r h =
    let xz = (bytes_decides x z).0 (sym p) in
    let yz = (bytes_decides y z).0 (sym q) in
    absurd (cc)
listed_in x y z t u ps true false true p q r h =
    let xz = (bytes_decides x z).0 (sym p) in
    let yx = (bytes_decides y x).0 (sym r) in
    absurd (cc)
listed_in x y z t u ps true false false p q r h = refl
listed_in x y z t u ps false true true p q r h =
    let yx = (bytes_decides y x).0 (sym r) in
    let yz = (bytes_decides y z).0 (sym q) in
    absurd (cc)
listed_in x y z t u ps false true false p q r h = refl
listed_in x y z t u ps false false d p q r h = h

put_case : (x y : Name) (t : Option WideTree) (z : Name) (u : Option WideTree) (ps : Pairs) (b : Bool)
    → b ≡ bytes_eq x z
    → listed y (cond b ((z, t) ∷ ps) ((z, u) ∷ put x t ps)) ≡
    cond (bytes_eq y z) (Some (cond b t u)) (cond b (listed y ps) (listed y (put x t ps)))
put_case x y t z u ps true p = refl
put_case x y t z u ps false p = refl

pub listed_put : (x y : Name) (t : Option WideTree) (ps : Pairs)
    → listed y (put x t ps) ≡ cond (bytes_eq y x) (Some t) (listed y ps)
listed_put x y t [] = refl
listed_put x y t ((z, u) ∷ ps) =
    put_case x y t z u ps (bytes_eq x z) refl
    ∙ listed_in x y z t u ps (bytes_eq x z) (bytes_eq y z) (bytes_eq y x) refl refl refl (listed_put x y t ps)

pub joined_cond : (b : Bool) (t : Option WideTree) (o : Option (Option WideTree))
    → flattened (cond b (Some t) o) ≡ cond b t (flattened o)
joined_cond true t o = refl
joined_cond false t o = refl

pub find_put : (x y : Name) (t : Option WideTree) (ps : Pairs)
    → find y (put x t ps) ≡ (if bytes_eq y x then t else find y ps)
find_put x y t ps = ap flattened (listed_put x y t ps) ∙ joined_cond (bytes_eq y x) t (listed y ps)

kept_if : (b : Bool) (t : Option WideTree) (o : Option (Option WideTree)) → IsSome o → IsSome (cond b (Some t) o)
kept_if true t o h = refl
kept_if false t o h = h

pub listed_kept : (x y : Name) (t : Option WideTree) (ps : Pairs) → IsSome (listed y ps)
    → IsSome (listed y (put x t ps))
listed_kept x y t ps h = subst IsSome (sym (listed_put x y t ps)) (kept_if (bytes_eq y x) t (listed y ps) h)

pub put_same : (x : Name) (t : Option WideTree) (ps qs : Pairs) → AreSame ps qs → AreSame (put x t ps) (put x t qs)
put_same x t ps qs h = λ y. find_put x y t ps ∙ ap (λ o. if bytes_eq y x then t else o) (h y) ∙ sym (find_put x y t qs)
