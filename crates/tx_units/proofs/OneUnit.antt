-- An edit inside one paragraph changes one unit.
use Rattle.std.proofs.Common.{◌≡◌, ℕ, zero, suc, ◌+◌, Bool, true, false, List, [], ◌∷◌, ◌++◌}
use Rattle.std.proofs.Common.{refl, sym, ap, subst, arith, lt_irrefl, ◌∙◌}
use Rattle.std.specs.Prelude.{codes, if◌then◌else◌, not, ◌&&◌, Option, Some, None, option_map}
use Rattle.std.specs.Prelude.{option_and_then, slice_get}
use Rattle.std.specs.List.{find, position, flat_map}
use Rattle.std.specs.Option.{option_map_or}
use Rattle.std.specs.Str.{bytes_eq}
use Rattle.std.specs.Cmp.Lexicographic.{bytes_decides}
use Rattle.std.proofs.lemmas.Bool.{and_parts, or_parts}
use Rattle.std.proofs.lemmas.List.Quantifiers.{position-Some}
use Rattle.std.proofs.lemmas.Option.{get_or_from_slice_get}
use Rattle.tx_doc.specs.Bodies.{is_labelled, is_body, first_in}
use Rattle.tx_doc.specs.declared.buffer.Buffer.{Buffer}
use Rattle.tx_tree.specs.Paths.{subtree}
use Rattle.tx_tree.proofs.Walking.{step_down}
use Rattle.tx_tree.specs.WideTree.{WideTree, leaf, node, children_of}
use Rattle.tx_units.specs.Documents.{is_document, section, names_in, each_once}
use Rattle.tx_units.specs.Inside.{is_part, leaves_others, HasOtherChild, AreSameBut, ChangesOne}
use Rattle.tx_units.specs.declared.kinds.Unit.{Unit as DocUnit}
use Rattle.tx_units.specs.Units.{body_unit, units_at, body_units, front_units, base_units, style_units, initial_units}
use Rattle.tx_units.specs.Units.{named_units, entry_units, units_with}
use Rattle.tx_units.proofs.Exchanged.{same_label, child_of, place_in, found_in, numbered, unit_at, numbered_with}
use Rattle.tx_units.proofs.Fronts.{no_paths, behind}

-- ---- parts of a document

-- the tree is no `body`, and no section
pub record IsNoSection (t : WideTree) : Type 0 where
  pub body : is_body t ≡ false
  pub style : is_labelled (codes "style") t ≡ false
  pub initial : is_labelled (codes "initial") t ≡ false

no_section : (t : WideTree) → is_part 1 t ≡ false → IsNoSection t
no_section t e =
    let a = or_parts _ _ e in
    let b = or_parts _ _ a.1 in
    record { body = a.0; style = b.0; initial = b.1 }

off : (b : Bool) → not b ≡ true → b ≡ false
off true e = cc
off false e = refl

-- what is asked at this depth
both_plain : (depth : ℕ) (t x : WideTree) → not (is_part depth t) && not (is_part depth x) ≡ true
    → (is_part depth t ≡ false) × (is_part depth x ≡ false)
both_plain depth t x e =
    let h = and_parts _ _ e in (off (is_part depth t) h.0, off (is_part depth x) h.1)

-- a tree with one label has no other
other_label : (l m : List ℕ) (t : WideTree) → bytes_eq l m ≡ false → is_labelled l t ≡ true → is_labelled m t ≡ false
other_label l m (leaf text) ne e = absurd cc
other_label l m (node k ts) ne e =
    let same : k ≡ l = (bytes_decides k l).0 e in ap (λ j. bytes_eq j m) same ∙ ne

-- ---- what is before the body

-- two documents have the same sections
pub record HaveSameSections (t u : WideTree) : Type 0 where
  pub document : is_document u ≡ is_document t
  pub style : find (is_labelled (codes "style")) (children_of u) ≡ find (is_labelled (codes "style")) (children_of t)
  pub initial : find (is_labelled (codes "initial")) (children_of u)
      ≡ find (is_labelled (codes "initial")) (children_of t)

same_section : (label : List ℕ) (t u : WideTree) → is_document u ≡ is_document t
    → find (is_labelled label) (children_of u) ≡ find (is_labelled label) (children_of t)
    → section label u ≡ section label t
same_section label t u d f =
    ap (λ b. if b then option_and_then (λ part. slice_get (children_of part) 0)
    (find (is_labelled label) (children_of u)) else None) d
    ∙ ap (λ o. if is_document t then option_and_then (λ part. slice_get (children_of part) 0) o else None) f

abbrev entries_in : Option WideTree → List WideTree
entries_in o = option_map_or (λ c. if is_labelled (codes "collection") c then children_of c else []) o []

same_front : (t u : WideTree) (styles : List Buffer) → HaveSameSections t u
    → front_units u styles ≡ front_units t styles
same_front t u styles h =
    ap (λ o. base_units ++ (flat_map (named_units styles) (each_once (option_map_or names_in o []))
    ++ initial_units u)) (same_section (codes "style") t u h.document h.style)
    ∙ ap (λ o. base_units ++ (style_units t styles ++ flat_map entry_units (entries_in o)))
    (same_section (codes "initial") t u h.document h.initial)

-- a child that is no section gets another that is none in its place
same_sections : (i : ℕ) (c d t u : WideTree) → HasOtherChild i c d t u
    → is_labelled (codes "style") c ≡ false → is_labelled (codes "style") d ≡ false
    → is_labelled (codes "initial") c ≡ false → is_labelled (codes "initial") d ≡ false → HaveSameSections t u
same_sections i c d t u h cs ds ci di = record {
  document = same_label (codes "document") t u h.label;
  style = found_in (is_labelled (codes "style")) i c d t u h cs ds;
  initial = found_in (is_labelled (codes "initial")) i c d t u h ci di;
}

-- ---- the body

abbrev units_by : WideTree → Option (List ℕ) → List DocUnit
units_by t o = option_map_or (λ path. option_map_or (units_at path) (subtree t path) []) o []

abbrev body_by : WideTree → Bool → Option ℕ → List DocUnit
body_by t b o = units_by t (if b then option_map_or (first_in t) o (Some []) else Some [])

body_whole : (t : WideTree) → is_document t ≡ false → body_units t ≡ body_unit t [] ∷ []
body_whole t d =
    ap (λ b. body_by t b (position is_body (children_of t))) d
    ∙ ap (λ b. if b then numbered [] 0 (children_of t) else body_unit t [] ∷ []) d

body_root : (t : WideTree) → is_document t ≡ true → position is_body (children_of t) ≡ None
    → body_units t ≡ numbered [] 0 (children_of t)
body_root t d e =
    ap (λ b. body_by t b (position is_body (children_of t))) d ∙ ap (body_by t true) e
    ∙ ap (λ b. if b then numbered [] 0 (children_of t) else body_unit t [] ∷ []) d

abbrev first_by : ℕ → Option WideTree → Option (List ℕ)
first_by k o = option_and_then (λ c. option_map (λ _. k ∷ 0 ∷ []) (slice_get (children_of c) 0)) o

-- the child that is the `body` has no child
body_none : (t c : WideTree) (k : ℕ) → is_document t ≡ true → position is_body (children_of t) ≡ Some k
    → slice_get (children_of t) k ≡ Some c → slice_get (children_of c) 0 ≡ None → body_units t ≡ []
body_none t c k d e f g =
    ap (λ b. body_by t b (position is_body (children_of t))) d ∙ ap (body_by t true) e
    ∙ ap (λ o. units_by t (first_by k o)) f ∙ ap (λ o. units_by t (option_map (λ _. k ∷ 0 ∷ []) o)) g

body_lost : (t : WideTree) (k : ℕ) → is_document t ≡ true → position is_body (children_of t) ≡ Some k
    → slice_get (children_of t) k ≡ None → body_units t ≡ []
body_lost t k d e f =
    ap (λ b. body_by t b (position is_body (children_of t))) d ∙ ap (body_by t true) e
    ∙ ap (λ o. units_by t (first_by k o)) f

body_at : (t c b : WideTree) (k : ℕ) → is_document t ≡ true → position is_body (children_of t) ≡ Some k
    → slice_get (children_of t) k ≡ Some c → slice_get (children_of c) 0 ≡ Some b
    → body_units t ≡ units_at (k ∷ 0 ∷ []) b
body_at t c b k d e f g =
    ap (λ b. body_by t b (position is_body (children_of t))) d ∙ ap (body_by t true) e
    ∙ ap (λ o. units_by t (first_by k o)) f ∙ ap (λ o. units_by t (option_map (λ _. k ∷ 0 ∷ []) o)) g
    ∙ ap (λ o. option_map_or (units_at (k ∷ 0 ∷ [])) (option_and_then (λ v. option_and_then (λ w. Some w)
    (slice_get (children_of v) 0)) o) []) f
    ∙ ap (λ o. option_map_or (units_at (k ∷ 0 ∷ [])) (option_and_then (λ w. Some w) o) []) g

-- ---- what changes

-- what is before the body is unchanged, and unit j of the body has the tree x
pub record ChangesAt (t u : WideTree) (j : ℕ) (x : WideTree) : Type 0 where
  pub front : (styles : List Buffer) → front_units u styles ≡ front_units t styles
  pub units_are : body_units u ≡ units_with j x (body_units t)

some_same : {A : Type 0} (x y : A) → Some x ≡ Some y → x ≡ y
some_same x y e = cc

-- the paragraphs are the children of the root
at_root : (t u : WideTree) (j : ℕ) (v : DocUnit) (p : List ℕ) (x : WideTree)
    → is_document t ≡ true → position is_body (children_of t) ≡ None
    → slice_get (body_units t) j ≡ Some v → v.path ≡ Some p → leaves_others p v.tagged.tree x ≡ true
    → AreSameBut p t u → subtree u p ≡ Some x → ChangesAt t u j x
at_root t u j v p x d e there has leaves same at =
    let n = unit_at [] 0 (children_of t) j v (ap (λ us. slice_get us j) (sym (body_root t d e)) ∙ there) in
    let on : 0 + j ≡ j = omega arith in
    let own : p ≡ j ∷ [] = some_same p (j ∷ []) (sym has ∙ n.path_is ∙ ap (λ i. Some (i ∷ [])) on) in
    let plain = both_plain 1 v.tagged.tree x (subst (λ q. leaves_others q v.tagged.tree x ≡ true) own leaves) in
    by (subst (λ q. AreSameBut q t u) own same) (ap (subtree u) (sym own) ∙ at)
    (no_section v.tagged.tree plain.0, no_section x plain.1) n.tree
  where
    by : AreSameBut (j ∷ []) t u → subtree u (j ∷ []) ≡ Some x → IsNoSection v.tagged.tree × IsNoSection x
        → slice_get (children_of t) j ≡ Some v.tagged.tree → ChangesAt t u j x
    by s f plain own =
        let c = s.0 in
        let y = s.1 in
        let h = s.2 in
        let old : c ≡ v.tagged.tree = some_same c v.tagged.tree (sym h.there ∙ own) in
        let new : y ≡ x =
        some_same y x (sym (ap (option_and_then (λ w. Some w)) (child_of j c y t u h)) ∙ f) in
        let no = subst IsNoSection (sym old) plain.0 in
        let none = subst IsNoSection (sym new) plain.1 in
        let sections = same_sections j c y t u h no.style none.style no.initial none.initial in
        let place = place_in is_body j c y t u h (none.body ∙ sym no.body) ∙ e in
        record {
          front = λ styles. same_front t u styles sections;
          units_are =
              body_root u (sections.document ∙ d) place
              ∙ ap (numbered [] 0) h.others
              ∙ numbered_with [] 0 (children_of t) j y
              ∙ ap (λ w. units_with j w (numbered [] 0 (children_of t))) new
              ∙ ap (units_with j x) (sym (body_root t d e));
        }

-- the child that is the `body` gets another one
in_body : (t u c d b a : WideTree) (k : ℕ) → is_document t ≡ true → position is_body (children_of t) ≡ Some k
    → HasOtherChild k c d t u → HasOtherChild 0 b a c d → is_body c ≡ true
    → HaveSameSections t u × (body_units t ≡ units_at (k ∷ 0 ∷ []) b) × (body_units u ≡ units_at (k ∷ 0 ∷ []) a)
in_body t u c d b a k doc e h g is =
    let is_too : is_body d ≡ is_body c = same_label (codes "body") c d g.label in
    let no_style : is_labelled (codes "style") c ≡ false =
    other_label (codes "body") (codes "style") c refl is in
    let no_initial : is_labelled (codes "initial") c ≡ false =
    other_label (codes "body") (codes "initial") c refl is in
    let sections = same_sections k c d t u h
    no_style (same_label (codes "style") c d g.label ∙ no_style)
    no_initial (same_label (codes "initial") c d g.label ∙ no_initial) in (
      sections,
      body_at t c b k doc e h.there g.there,
      body_at u d a k (sections.document ∙ doc) (place_in is_body k c d t u h is_too ∙ e) (child_of k c d t u h)
          (child_of 0 b a c d g),
    )

found_body : (t c : WideTree) (k : ℕ) → position is_body (children_of t) ≡ Some k
    → slice_get (children_of t) k ≡ Some c → is_body c ≡ true
found_body t c k e f =
    ap is_body (sym (get_or_from_slice_get (children_of t) k c c f)) ∙ (position-Some is_body (children_of t) k c e).1

-- the body is a `document` in a `body`
in_document : (t u c b : WideTree) (k j : ℕ) (v : DocUnit) (p : List ℕ) (x : WideTree)
    → is_document t ≡ true → position is_body (children_of t) ≡ Some k
    → slice_get (children_of t) k ≡ Some c → slice_get (children_of c) 0 ≡ Some b → is_document b ≡ true
    → slice_get (body_units t) j ≡ Some v → v.path ≡ Some p → AreSameBut p t u → subtree u p ≡ Some x
    → ChangesAt t u j x
in_document t u c b k j v p x doc e f g is there has same at =
    let units_are : body_units t ≡ numbered (k ∷ 0 ∷ []) 0 (children_of b) =
    body_at t c b k doc e f g
    ∙ ap (λ z. if z then numbered (k ∷ 0 ∷ []) 0 (children_of b) else body_unit b (k ∷ 0 ∷ []) ∷ []) is in
    let n = unit_at (k ∷ 0 ∷ []) 0 (children_of b) j v (ap (λ us. slice_get us j) (sym units_are) ∙ there) in
    let on : 0 + j ≡ j = omega arith in
    let own : p ≡ k ∷ 0 ∷ j ∷ [] =
    some_same p (k ∷ 0 ∷ j ∷ []) (sym has ∙ n.path_is ∙ ap (λ i. Some (k ∷ 0 ∷ i ∷ [])) on) in
    by units_are (subst (λ q. AreSameBut q t u) own same) (ap (subtree u) (sym own) ∙ at)
  where
    by : body_units t ≡ numbered (k ∷ 0 ∷ []) 0 (children_of b) → AreSameBut (k ∷ 0 ∷ j ∷ []) t u
        → subtree u (k ∷ 0 ∷ j ∷ []) ≡ Some x → ChangesAt t u j x
    by all s h =
        let first = s.3 in
        let last = first.3 in
        let old : s.0 ≡ c = some_same s.0 c (sym s.2.there ∙ f) in
        let within : first.0 ≡ b =
        some_same first.0 b (sym first.2.there ∙ ap (λ w. slice_get (children_of w) 0) old ∙ g) in
        let new : last.1 ≡ x =
        some_same last.1 x (sym (step_down u s.1 k (0 ∷ j ∷ []) (child_of k s.0 s.1 t u s.2)
        ∙ step_down s.1 first.1 0 (j ∷ []) (child_of 0 first.0 first.1 s.0 s.1 first.2)
        ∙ step_down first.1 last.1 j [] (child_of j last.0 last.1 first.0 first.1 last.2)) ∙ h) in
        let m = in_body t u s.0 s.1 first.0 first.1 k doc e s.2 first.2 (ap is_body old ∙ found_body t c k e f) in
        let stays : is_document first.1 ≡ true =
        same_label (codes "document") first.0 first.1 last.2.label ∙ ap is_document within ∙ is in
        record {
          front = λ styles. same_front t u styles m.0;
          units_are =
              m.2
              ∙ ap (λ z. if z then numbered (k ∷ 0 ∷ []) 0 (children_of first.1) else body_unit first.1 (k ∷ 0 ∷ [])
              ∷ []) stays
              ∙ ap (numbered (k ∷ 0 ∷ []) 0) last.2.others
              ∙ numbered_with (k ∷ 0 ∷ []) 0 (children_of first.0) j last.1
              ∙ ap (λ w. units_with j w (numbered (k ∷ 0 ∷ []) 0 (children_of first.0))) new
              ∙ ap (λ w. units_with j x (numbered (k ∷ 0 ∷ []) 0 (children_of w))) within
              ∙ ap (units_with j x) (sym all);
        }

-- one tree in a `body` is all of it
in_single : (t u c b : WideTree) (k j : ℕ) (v : DocUnit) (p : List ℕ) (x : WideTree)
    → is_document t ≡ true → position is_body (children_of t) ≡ Some k
    → slice_get (children_of t) k ≡ Some c → slice_get (children_of c) 0 ≡ Some b → is_document b ≡ false
    → slice_get (body_units t) j ≡ Some v → v.path ≡ Some p → leaves_others p v.tagged.tree x ≡ true
    → AreSameBut p t u → subtree u p ≡ Some x → ChangesAt t u j x
in_single t u c b k j v p x doc e f g is there has leaves same at =
    let units_are : body_units t ≡ body_unit b (k ∷ 0 ∷ []) ∷ [] =
    body_at t c b k doc e f g
    ∙ ap (λ z. if z then numbered (k ∷ 0 ∷ []) 0 (children_of b) else body_unit b (k ∷ 0 ∷ []) ∷ []) is in
    by j units_are (ap (λ us. slice_get us j) (sym units_are) ∙ there)
  where
    alone : body_units t ≡ body_unit b (k ∷ 0 ∷ []) ∷ [] → AreSameBut (k ∷ 0 ∷ []) t u
        → subtree u (k ∷ 0 ∷ []) ≡ Some x → is_document x ≡ false → ChangesAt t u 0 x
    alone all s h plain =
        let first = s.3 in
        let old : s.0 ≡ c = some_same s.0 c (sym s.2.there ∙ f) in
        let new : first.1 ≡ x =
        some_same first.1 x (sym (step_down u s.1 k (0 ∷ []) (child_of k s.0 s.1 t u s.2)
        ∙ step_down s.1 first.1 0 [] (child_of 0 first.0 first.1 s.0 s.1 first.2)) ∙ h) in
        let m = in_body t u s.0 s.1 first.0 first.1 k doc e s.2 first.2 (ap is_body old ∙ found_body t c k e f) in
        record {
          front = λ styles. same_front t u styles m.0;
          units_are =
              m.2
              ∙ ap (units_at (k ∷ 0 ∷ [])) new
              ∙ ap (λ z. if z then numbered (k ∷ 0 ∷ []) 0 (children_of x) else body_unit x (k ∷ 0 ∷ []) ∷ [])
              plain
              ∙ ap (units_with 0 x) (sym all);
        }

    by : (i : ℕ) → body_units t ≡ body_unit b (k ∷ 0 ∷ []) ∷ []
        → slice_get (body_unit b (k ∷ 0 ∷ []) ∷ []) i ≡ Some v → ChangesAt t u i x
    by zero all h =
        let one : body_unit b (k ∷ 0 ∷ []) ≡ v = cc in
        let own : p ≡ k ∷ 0 ∷ [] = some_same p (k ∷ 0 ∷ []) (sym has ∙ ap (λ w. w.path) (sym one)) in
        let plain = both_plain 2 v.tagged.tree x
        (subst (λ q. leaves_others q v.tagged.tree x ≡ true) own leaves) in
        alone all (subst (λ q. AreSameBut q t u) own same) (ap (subtree u) (sym own) ∙ at) plain.1
    by (suc i) all h = absurd cc

-- ---- any document

no_unit : (us : List DocUnit) (j : ℕ) (v : DocUnit) → us ≡ [] → slice_get us j ≡ Some v → ⊥
no_unit us j v none e = let lost : None ≡ Some v = sym (ap (λ vs. slice_get vs j) none) ∙ e in absurd cc

-- a document that is one paragraph has no sections
no_sections : (t u : WideTree) → is_document t ≡ false → is_document u ≡ false
    → (styles : List Buffer) → front_units u styles ≡ front_units t styles
no_sections t u d e styles =
    ap (λ o. base_units ++ (flat_map (named_units styles) (each_once (option_map_or names_in o []))
    ++ initial_units u)) (none (codes "style") u e ∙ sym (none (codes "style") t d))
    ∙ ap (λ o. base_units ++ (style_units t styles ++ flat_map entry_units (entries_in o)))
    (none (codes "initial") u e ∙ sym (none (codes "initial") t d))
  where
    none : (label : List ℕ) (w : WideTree) → is_document w ≡ false → section label w ≡ None
    none label w f =
        ap (λ b. if b then option_and_then (λ part. slice_get (children_of part) 0)
        (find (is_labelled label) (children_of w)) else None) f

-- the document is one paragraph, and gets another tree that is one
at_whole : (t u : WideTree) (j : ℕ) (v : DocUnit) (p : List ℕ) (x : WideTree) → is_document t ≡ false
    → slice_get (body_units t) j ≡ Some v → v.path ≡ Some p → leaves_others p v.tagged.tree x ≡ true
    → subtree u p ≡ Some x → ChangesAt t u j x
at_whole t u j v p x d there has leaves at = by j (ap (λ us. slice_get us j) (sym (body_whole t d)) ∙ there)
  where
    by : (i : ℕ) → slice_get (body_unit t [] ∷ []) i ≡ Some v → ChangesAt t u i x
    by zero h =
        let one : body_unit t [] ≡ v = cc in
        let own : p ≡ [] = some_same p [] (sym has ∙ ap (λ w. w.path) (sym one)) in
        let new : u ≡ x = some_same u x (sym (ap (subtree u) own) ∙ at) in
        let plain = both_plain 0 v.tagged.tree x (subst (λ q. leaves_others q v.tagged.tree x ≡ true) own leaves) in
        let e : is_document u ≡ false = ap is_document new ∙ plain.1 in
        record {
          front = no_sections t u d e;
          units_are =
              body_whole u e ∙ ap (λ w. body_unit w [] ∷ []) new ∙ ap (units_with 0 x) (sym (body_whole t d));
        }
    by (suc i) h = absurd cc

changes_at : (t u : WideTree) (j : ℕ) (v : DocUnit) (p : List ℕ) (x : WideTree)
    → slice_get (body_units t) j ≡ Some v → v.path ≡ Some p → leaves_others p v.tagged.tree x ≡ true
    → AreSameBut p t u → subtree u p ≡ Some x → ChangesAt t u j x
changes_at t u j v p x there has leaves same at = by (is_document t) refl
  where
    in_child : (k : ℕ) (c b : WideTree) → is_document t ≡ true → position is_body (children_of t) ≡ Some k
        → slice_get (children_of t) k ≡ Some c → slice_get (children_of c) 0 ≡ Some b → (z : Bool)
        → is_document b ≡ z → ChangesAt t u j x
    in_child k c b d e f g true is = in_document t u c b k j v p x d e f g is there has same at
    in_child k c b d e f g false is = in_single t u c b k j v p x d e f g is there has leaves same at

    first_of : (k : ℕ) (c : WideTree) → is_document t ≡ true → position is_body (children_of t) ≡ Some k
        → slice_get (children_of t) k ≡ Some c → (o : Option WideTree) → slice_get (children_of c) 0 ≡ o
        → ChangesAt t u j x
    first_of k c d e f None g = absurd (no_unit (body_units t) j v (body_none t c k d e f g) there)
    first_of k c d e f (Some b) g = in_child k c b d e f g (is_document b) refl

    child : (k : ℕ) → is_document t ≡ true → position is_body (children_of t) ≡ Some k → (o : Option WideTree)
        → slice_get (children_of t) k ≡ o → ChangesAt t u j x
    child k d e None f = absurd (no_unit (body_units t) j v (body_lost t k d e f) there)
    child k d e (Some c) f = first_of k c d e f (slice_get (children_of c) 0) refl

    body : is_document t ≡ true → (o : Option ℕ) → position is_body (children_of t) ≡ o → ChangesAt t u j x
    body d None e = at_root t u j v p x d e there has leaves same at
    body d (Some k) e = child k d e (slice_get (children_of t) k) refl

    by : (b : Bool) → is_document t ≡ b → ChangesAt t u j x
    by true d = body d (position is_body (children_of t)) refl
    by false d = at_whole t u j v p x d there has leaves at

-- ---- all units

in_all : (t u : WideTree) (styles : List Buffer) (i : ℕ) (v : DocUnit) (p : List ℕ) (x : WideTree)
    → slice_get (front_units t styles ++ body_units t) i ≡ Some v → v.path ≡ Some p
    → leaves_others p v.tagged.tree x ≡ true → AreSameBut p t u → subtree u p ≡ Some x
    → front_units u styles ++ body_units u ≡ units_with i x (front_units t styles ++ body_units t)
in_all t u styles i v p x there has leaves same at =
    let b = behind (front_units t styles) (body_units t) i x v p (no_paths t styles) there has in
    let h = changes_at t u b.number v p x b.there has leaves same at in
    ap (λ us. us ++ body_units u) (h.front styles)
    ∙ ap (λ us. front_units t styles ++ us) h.units_are ∙ sym b.changed

pub changes_one : (buffers : List Buffer) (i : ℕ) (t x : WideTree) → ChangesOne buffers i t x
changes_one [] i t x some u p there has leaves same at = absurd (lt_irrefl 0 some)
changes_one (b ∷ buffers) i t x some u p there has leaves same at =
    in_all b.tree t buffers i u p x there has leaves same at
