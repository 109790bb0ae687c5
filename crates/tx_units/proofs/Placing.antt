-- The units of a body are in the document, each at a path of its own.
use Rattle.std.proofs.Common.{◌≡◌, ℕ, suc, ◌+◌, ◌<◌, Bool, true, false, List, [], ◌∷◌, ◌++◌, length, map, refl, sym, ap}
use Rattle.std.proofs.Common.{subst, arith, length-append, get_or, ◌∙◌}
use Rattle.std.proofs.lemmas.List.{append-nil}
use Rattle.std.specs.Prelude.{if◌then◌else◌, Option, Some, None, option_and_then, slice_get}
use Rattle.std.specs.List.{AllByRecursion, enumerate_from}
use Rattle.std.specs.Option.{option_map_or}
use Rattle.tx_doc.specs.Bodies.{body_of}
use Rattle.tx_tree.specs.Paths.{subtree}
use Rattle.tx_tree.specs.WideTree.{WideTree, children_of}
use Rattle.tx_units.specs.Documents.{is_document}
use Rattle.tx_units.specs.Places.{UnitStandsIn, AreApart, NoneBegins}
use Rattle.tx_units.specs.Units.{body_unit, units_at, body_units}

-- a child of what is at a path is after it
below : (t s c : WideTree) (path : List ℕ) (i : ℕ) → subtree t path ≡ Some s → slice_get (children_of s) i ≡ Some c
    → subtree t (path ++ i ∷ []) ≡ Some c
below t s c [] i e h = let same : t ≡ s = cc in rw same (ap (option_and_then (λ u. Some u)) h)
below t s c (k ∷ path) i e h = by (slice_get (children_of t) k) e (λ u f. below u s c path i f h)
  where
    by : (o : Option WideTree) → option_and_then (λ u. subtree u path) o ≡ Some s
        → ((u : WideTree) → subtree u path ≡ Some s → subtree u (path ++ i ∷ []) ≡ Some c)
        → option_and_then (λ u. subtree u (path ++ i ∷ [])) o ≡ Some c
    by None f on = absurd cc
    by (Some u) f on = on u f

-- ---- the paragraphs of a `document`

module _ (path : List ℕ) where
  all_stand : (t : WideTree) (k : ℕ) (ts : List WideTree)
      → ((j : ℕ) (c : WideTree) → slice_get ts j ≡ Some c → subtree t (path ++ (k + j) ∷ []) ≡ Some c)
      → AllByRecursion (UnitStandsIn t) (map (λ p. body_unit p.1 (path ++ p.0 ∷ [])) (enumerate_from k ts))
  all_stand t k [] h = tt
  all_stand t k (c ∷ ts) h =
      let here : k + 0 ≡ k = omega arith in (
        record {
          path = path ++ k ∷ [];
          has_path = refl;
          leads = subst (λ n. subtree t (path ++ n ∷ []) ≡ Some c) here (h 0 c refl);
          at_root = refl;
          is_body = refl;
        },
        all_stand t (k + 1) ts (λ j d e. let on : k + suc j ≡ (k + 1) + j = omega arith in
            subst (λ n. subtree t (path ++ n ∷ []) ≡ Some d) on (h (suc j) d e)),
      )

  -- paths of one length that end otherwise
  ends_apart : (m n : ℕ) → (m ≡ n → ⊥) → AreApart (Some (path ++ m ∷ [])) (Some (path ++ n ∷ []))
  ends_apart m n ne p more = ((λ e f. apart p more m n ne e f), (λ e f. apart p more n m (λ g. ne (sym g)) e f))
    where
      at_end : (ps : List ℕ) (k : ℕ) → get_or (ps ++ k ∷ []) (length ps) 0 ≡ k
      at_end [] k = refl
      at_end (x ∷ ps) k = at_end ps k

      apart : (p more : List ℕ) (m n : ℕ) → (m ≡ n → ⊥) → Some (path ++ m ∷ []) ≡ Some p
          → Some (path ++ n ∷ []) ≡ Some (p ++ more) → ⊥
      apart p [] m n ne e f =
          let one : path ++ m ∷ [] ≡ p = cc in
          let other : path ++ n ∷ [] ≡ p ++ [] = cc in
          let same : path ++ m ∷ [] ≡ path ++ n ∷ [] = one ∙ sym (append-nil p) ∙ sym other in
          ne (sym (at_end path m) ∙ ap (λ xs. get_or xs (length path) 0) same ∙ at_end path n)
      apart p (x ∷ more) m n ne e f =
          let one : path ++ m ∷ [] ≡ p = cc in
          let other : path ++ n ∷ [] ≡ p ++ x ∷ more = cc in
          absurd (omega (
            arith,
            length-append path (m ∷ []),
            length-append path (n ∷ []),
            length-append p (x ∷ more),
            ap length one,
            ap length other,
          ))

  later_apart : (n k : ℕ) (ts : List WideTree) → n < k
      → AllByRecursion (λ v. AreApart (Some (path ++ n ∷ [])) v.path)
      (map (λ p. body_unit p.1 (path ++ p.0 ∷ [])) (enumerate_from k ts))
  later_apart n k [] lt = tt
  later_apart n k (c ∷ ts) lt =
      (ends_apart n k (λ e. absurd (omega (arith, e, lt))), later_apart n (k + 1) ts (omega arith))

  all_apart : (k : ℕ) (ts : List WideTree)
      → NoneBegins (map (λ p. body_unit p.1 (path ++ p.0 ∷ [])) (enumerate_from k ts))
  all_apart k [] = tt
  all_apart k (c ∷ ts) = (later_apart k (k + 1) ts (omega arith), all_apart (k + 1) ts)

-- ---- any body

stand_at : (t body : WideTree) (path : List ℕ) → subtree t path ≡ Some body
    → AllByRecursion (UnitStandsIn t) (units_at path body)
stand_at t body path e = by (is_document body)
  where
    by : (b : Bool) → AllByRecursion (UnitStandsIn t)
        (if b then map (λ p. body_unit p.1 (path ++ p.0 ∷ [])) (enumerate_from 0 (children_of body)) else body_unit body
        path ∷ [])
    by true = all_stand path t 0 (children_of body) (λ j c h. let on : 0 + j ≡ j = omega arith in
        rw on (below t body c path j e h))
    by false = (record { path = path; has_path = refl; leads = e; at_root = refl; is_body = refl }, tt)

apart_at : (body : WideTree) (path : List ℕ) → NoneBegins (units_at path body)
apart_at body path = by (is_document body)
  where
    by : (b : Bool) → NoneBegins
        (if b then map (λ p. body_unit p.1 (path ++ p.0 ∷ [])) (enumerate_from 0 (children_of body)) else body_unit body
        path ∷ [])
    by true = all_apart path 0 (children_of body)
    by false = (tt, tt)

pub body_stands : (t : WideTree) → AllByRecursion (UnitStandsIn t) (body_units t)
body_stands t = by (body_of t)
  where
    there : (path : List ℕ) (o : Option WideTree) → subtree t path ≡ o
        → AllByRecursion (UnitStandsIn t) (option_map_or (units_at path) o [])
    there path None e = tt
    there path (Some s) e = stand_at t s path e

    by : (o : Option (List ℕ))
        → AllByRecursion (UnitStandsIn t)
        (option_map_or (λ path. option_map_or (units_at path) (subtree t path) []) o [])
    by None = tt
    by (Some path) = there path (subtree t path) refl

pub body_apart : (t : WideTree) → NoneBegins (body_units t)
body_apart t = by (body_of t)
  where
    there : (path : List ℕ) (o : Option WideTree) → NoneBegins (option_map_or (units_at path) o [])
    there path None = tt
    there path (Some s) = apart_at s path

    by : (o : Option (List ℕ))
        → NoneBegins (option_map_or (λ path. option_map_or (units_at path) (subtree t path) []) o [])
    by None = tt
    by (Some path) = there path (subtree t path)
