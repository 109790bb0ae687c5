-- The base style by texts that spell its trees.
use Rattle.std.proofs.Common.{◌≡◌, ℕ, zero, suc, ◌+◌, ◌<◌, ◌≤◌, Bool, true, List, [], ◌∷◌, ◌++◌, length, map, take}
use Rattle.std.proofs.Common.{get_or}
use Rattle.std.proofs.Common.{refl, sym, ap, arith, drop, ◌∙◌}
use Rattle.std.specs.Prelude.{◌&&◌, nat_le, IfOk}
use Rattle.std.proofs.Common.{Result, Ok, Err, Vec, Global}
use Rattle.tx_base.specs.declared.out_of_memory.Memory.{Memory}
use Rattle.std.specs.List.{list_all}
use Rattle.std.proofs.lemmas.Bool.{leb-true, and_parts}
use Rattle.std.proofs.lemmas.List.{take_more, map-append, take-append-drop}
use Rattle.tx_scm.specs.Canonical.{scheme_text}
use Rattle.tx_scm.specs.Spelling.{Spells}
use Rattle.tx_scm.proofs.Spelled.{text_alone}
use Rattle.tx_tree.specs.Labels.{is_label_byte}
use Rattle.tx_tree.specs.Limits.{IsWellFormed, AreWellFormed, IsWithinLimits}
use Rattle.tx_tree.specs.TextScan.{is_text, text_step}
use Rattle.tx_tree.specs.WideTree.{WideTree, Forest, leaf, node, nil, cons}
use Rattle.tx_tree.specs.WideTree.{size_of, depth_of, arity_of, text_length_of, nodes_of}
use Rattle.tx_tree.proofs.Scanning.{text_test}
use Rattle.tx_units.specs.BaseStyle.{assign_tag, base_style}
use Rattle.tx_units.specs.BaseTexts.{IsSpelled, AreSpelled, IsOfText, AreOfTexts}
use Rattle.tx_units.specs.Units.{unit, base_units, nodes_made}
use Rattle.tx_units.specs.declared.kinds.Unit.{Unit as DocUnit}
use Rattle.tx_units.specs.declared.kinds.UnitKind.TheVariants.{Base}
use Rattle.tx_units.proofs.Gathering.{nodes_made-append}
use Rattle.tx_units.proofs.Sound.{is_label, label_by}

-- ---- a test by which the trees of the base style are known to be well formed and within the limits

abbrev mutual
  is_formed : WideTree → Bool
  is_formed (leaf text) = is_text text
  is_formed (node label ts) = is_label label && are_formed ts

  are_formed : Forest → Bool
  are_formed nil = true
  are_formed (cons t ts) = is_formed t && are_formed ts

abbrev is_within : WideTree → Bool
is_within t =
    (nat_le (text_length_of t) 1048575 && nat_le (arity_of t) 65535)
    && (nat_le (depth_of t) 400 && nat_le (size_of t) 8000000)

abbrev is_sound : WideTree → Bool
is_sound t = is_formed t && is_within t

mutual
  formed_by : (t : WideTree) → is_formed t ≡ true → IsWellFormed t
  formed_by (leaf text) e = text_test text e
  formed_by (node label ts) e =
      let p = and_parts (is_label label) (are_formed ts) e in
      (label_by label p.0, all_formed_by ts p.1)

  all_formed_by : (ts : Forest) → are_formed ts ≡ true → AreWellFormed ts
  all_formed_by nil e = tt
  all_formed_by (cons t ts) e =
      let p = and_parts (is_formed t) (are_formed ts) e in
      (formed_by t p.0, all_formed_by ts p.1)

within_by : (t : WideTree) → is_within t ≡ true → IsWithinLimits t
within_by t e =
    let p = and_parts _ _ e in
    let q = and_parts _ _ p.0 in
    let r = and_parts _ _ p.1 in
    record { text = leb-true _ _ q.0; arity = leb-true _ _ q.1; depth = leb-true _ _ r.0; size = leb-true _ _ r.1 }

-- ---- texts that are canonical

all_spelled : (ts : List WideTree) → list_all is_sound ts ≡ true → AreSpelled (map scheme_text ts)
all_spelled [] e = tt
all_spelled (t ∷ ts) e =
    let p = and_parts (is_sound t) (list_all is_sound ts) e in
    let q = and_parts (is_formed t) (is_within t) p.0 in (
      record { tree = t; spelled = (text_alone t (formed_by t q.0)).spelled; within = within_by t q.1 },
      all_spelled ts p.1,
    )

same_unit : (t : WideTree) (u : DocUnit) → is_sound t ≡ true → IsOfText (scheme_text t) u → u ≡ unit Base t
same_unit t u e h =
    let q = and_parts (is_formed t) (is_within t) e in
    h.is ∙ ap (unit Base) ((text_alone t (formed_by t q.0)).alone u.tagged.tree h.spelled)

all_same : (ts : List WideTree) (us : List DocUnit) → list_all is_sound ts ≡ true → AreOfTexts (map scheme_text ts) us
    → us ≡ map (unit Base) ts
all_same [] [] e h = refl
all_same [] (u ∷ us) e h = absurd h
all_same (t ∷ ts) [] e h = absurd h
all_same (t ∷ ts) (u ∷ us) e h =
    let p = and_parts (is_sound t) (list_all is_sound ts) e in
    ap (λ v. v ∷ us) (same_unit t u p.0 h.0) ∙ ap (λ vs. unit Base t ∷ vs) (all_same ts us p.1 h.1)

-- ---- the base style

abbrev pub base_trees : List WideTree
base_trees = map (λ row. assign_tag (leaf row.0) row.1) base_style

trees_sound : list_all is_sound base_trees ≡ true
unfolding base_style is_label_byte is_text text_step
trees_sound = refl

pub base_spelled : AreSpelled (map scheme_text base_trees)
base_spelled = all_spelled base_trees trees_sound

-- the base style's own units are of these texts
all_of_texts : (ts : List WideTree) → list_all is_sound ts ≡ true → AreOfTexts (map scheme_text ts) (map (unit Base) ts)
all_of_texts [] e = tt
all_of_texts (t ∷ ts) e =
    let p = and_parts (is_sound t) (list_all is_sound ts) e in
    let q = and_parts (is_formed t) (is_within t) p.0 in
    (record { spelled = (text_alone t (formed_by t q.0)).spelled; is = refl }, all_of_texts ts p.1)

pub base_texts : AreOfTexts (map scheme_text base_trees) base_units
unfolding base_units base_style
base_texts = all_of_texts base_trees trees_sound

pub base_same : (us : List DocUnit) → AreOfTexts (map scheme_text base_trees) us → us ≡ base_units
unfolding base_units base_style
base_same us h = all_same base_trees us trees_sound h

-- ---- the loop over texts

more_of_texts : (texts : List (List ℕ)) (us : List DocUnit) (text : List ℕ) (u : DocUnit) → AreOfTexts texts us
    → IsOfText text u
    → AreOfTexts (texts ++ text ∷ []) (us ++ u ∷ [])
more_of_texts [] [] text u h k = (k, tt)
more_of_texts [] (v ∷ us) text u h k = absurd h
more_of_texts (other ∷ texts) [] text u h k = absurd h
more_of_texts (other ∷ texts) (v ∷ us) text u h k = (h.0, more_of_texts texts us text u h.1 k)

pub text_at : {X : Type 0} (f : X → List ℕ) (xs : List X) (i : ℕ) (d : X) → i < length xs → AreSpelled (map f xs)
    → IsSpelled (f (get_or xs i d))
text_at f [] i d lt h = absurd (omega arith)
text_at f (x ∷ xs) zero d lt h = h.0
text_at {X} f (x ∷ xs) (suc i) d lt h = text_at {X = X} f xs i d (omega arith) h.1

pub texts_next : {X : Type 0} (f : X → List ℕ) (xs : List X) (i : ℕ) (d : X) (us vs : List DocUnit) (u : DocUnit)
    → i < length xs
    → AreOfTexts (map f (take i xs)) us → IsOfText (f (get_or xs i d)) u → vs ≡ us ++ u ∷ []
    → AreOfTexts (map f (take (i + 1) xs)) vs
texts_next f xs i d us vs u lt h k more =
    let texts : map f (take (i + 1) xs) ≡ map f (take i xs) ++ f (get_or xs i d) ∷ []
    = ap (map f) (take_more xs i d lt) ∙ map-append f (take i xs) (get_or xs i d ∷ []) in
    rw (texts, more) (more_of_texts (map f (take i xs)) us (f (get_or xs i d)) u h k)

-- the unit of a text among texts
unit_at : {X : Type 0} (f : X → List ℕ) (xs : List X) (i : ℕ) (d : X) (us : List DocUnit) → i < length xs
    → AreOfTexts (map f xs) us
    → (u : DocUnit) × IsOfText (f (get_or xs i d)) u × (take (suc i) us ≡ take i us ++ u ∷ [])
unit_at f [] i d us lt h = absurd (omega arith)
unit_at f (x ∷ xs) i d [] lt h = absurd h
unit_at f (x ∷ xs) zero d (u ∷ us) lt h = (u, h.0, refl)
unit_at {X} f (x ∷ xs) (suc i) d (u ∷ us) lt h =
    let r = unit_at {X = X} f xs i d us (omega arith) h.1 in
    (r.0, r.1, ap (λ vs. u ∷ vs) r.2)

-- the nodes of one unit more
pub made_next : {X : Type 0} (f : X → List ℕ) (xs : List X) (i : ℕ) (d : X) (us : List DocUnit) (from s n : ℕ)
    → i < length xs
    → AreOfTexts (map f xs) us → s ≤ from + nodes_made (take i us)
    → ((t : WideTree) → Spells (f (get_or xs i d)) t → n ≤ s + nodes_of t)
    → n ≤ from + nodes_made (take (i + 1) us)
made_next {X} f xs i d us from s n lt h so step =
    let found = unit_at {X = X} f xs i d us lt h in
    let u : DocUnit = found.0 in
    let one : nodes_made (unit Base u.tagged.tree ∷ []) ≡ nodes_of u.tagged.tree = omega arith in
    let last : nodes_made (u ∷ []) ≡ nodes_made (unit Base u.tagged.tree ∷ []) =
    ap (λ v. nodes_made (v ∷ [])) found.1.is in
    let index : i + 1 ≡ suc i = omega arith in
    let sum : nodes_made (take (i + 1) us) ≡ nodes_made (take i us) + nodes_made (u ∷ [])
    = ap (λ k. nodes_made (take k us)) index ∙ ap nodes_made found.2 ∙ nodes_made-append (take i us) (u ∷ []) in
    omega (arith, so, step u.tagged.tree found.1.spelled, one, last, sum)

-- the first units make no more than all of them
pub made_all : (i : ℕ) (us : List DocUnit) (from n : ℕ) → n ≤ from + nodes_made (take i us) → n ≤ from + nodes_made us
made_all i us from n so =
    let all : nodes_made us ≡ nodes_made (take i us) + nodes_made (drop i us)
    = ap nodes_made (sym (take-append-drop i us)) ∙ nodes_made-append (take i us) (drop i us) in
    omega (arith, so, all)

pub when_ok : (r : Result (Vec DocUnit Global) Memory)
    → ((us : List DocUnit) → AreOfTexts (map scheme_text base_trees) us → us ≡ base_units)
    → IfOk r (λ v. AreOfTexts (map scheme_text base_trees) v.items) → IfOk r (λ v. v.items ≡ base_units)
when_ok (Ok v) same h = same v.items h
when_ok (Err f) same h = tt
