-- Values: trees each of whose nodes has an origin or none.
use base.Stored.{Gv, gnil, gnum, gcons}
use Rattle.std.specs.Prelude.{◌≡◌, ℕ, ◌+◌, List, [], ◌∷◌, ◌++◌, Option, Some, None}
use Rattle.std.specs.Coded.{Coded, coded_ℕ, coded_list, coded_option}
use Rattle.std.proofs.Common.{ap, refl}
use Rattle.tx_tree.specs.WideTree.{WideTree, Forest, leaf, node, nil, cons}

-- a text, or a label with a list of values, and its origin or none
mutual
  pub data WideValue : Type 0 where
    text : (words : List ℕ) → (at : Option (List ℕ)) → WideValue
    made : (label : List ℕ) → (parts : WideValues) → (at : Option (List ℕ)) → WideValue

  pub data WideValues : Type 0 where
    none : WideValues
    also : (first : WideValue) → (others : WideValues) → WideValues

-- a list of values, as the parts of one
abbrev pub vals : List WideValue → WideValues
vals [] = none
vals (v ∷ vs) = also v (vals vs)

abbrev pub each_of : WideValues → List WideValue
each_of none = []
each_of (also v vs) = v ∷ each_of vs

-- a text has no parts
abbrev pub value_parts : WideValue → List WideValue
value_parts (text words at) = []
value_parts (made label parts at) = each_of parts

abbrev pub value_text : WideValue → Option (List ℕ)
value_text (text words at) = Some words
value_text (made label parts at) = None

abbrev pub value_label : WideValue → Option (List ℕ)
value_label (text words at) = None
value_label (made label parts at) = Some label

abbrev pub value_origin : WideValue → Option (List ℕ)
value_origin (text words at) = at
value_origin (made label parts at) = at

-- the tree without origins
abbrev mutual
  pub plain : WideValue → WideTree
  plain (text words at) = leaf words
  plain (made label parts at) = node label (plains parts)

  pub plains : WideValues → Forest
  plains none = nil
  plains (also v vs) = cons (plain v) (plains vs)

-- the origin of a child: its number after the parent's origin
abbrev pub child_at : Option (List ℕ) → ℕ → Option (List ℕ)
child_at None i = None
child_at (Some p) i = Some (p ++ i ∷ [])

-- a tree at an origin, with the origins of its parts
abbrev mutual
  pub whole : Option (List ℕ) → WideTree → WideValue
  whole at (leaf words) = text words at
  whole at (node label ts) = made label (wholes at 0 ts) at

  pub wholes : Option (List ℕ) → ℕ → Forest → WideValues
  wholes at i nil = none
  wholes at i (cons t ts) = also (whole (child_at at i) t) (wholes at (i + 1) ts)

-- a node with this label and these parts is the tree that it was taken from, if it was
abbrev pub IsFrom : List ℕ → List WideValue → Option WideTree → Type 0
IsFrom label vs None = Unit {0}
IsFrom label vs (Some t) = t ≡ node label (plains (vals vs))

-- ---- the code by which proofs tell values apart

abbrev bytes_code : Coded (List ℕ)
bytes_code = coded_list coded_ℕ

abbrev at_code : Coded (Option (List ℕ))
at_code = coded_option (coded_list coded_ℕ)

abbrev mutual
  code_of : WideValue → Gv
  code_of (text words at) = gcons (gnum 0) (gcons (bytes_code.code words) (at_code.code at))
  code_of (made label parts at) =
      gcons (gnum 1) (gcons (bytes_code.code label) (gcons (code_of_all parts) (at_code.code at)))

  code_of_all : WideValues → Gv
  code_of_all none = gnil
  code_of_all (also v vs) = gcons (code_of v) (code_of_all vs)

abbrev left_part : Gv → Gv
left_part gnil = gnil
left_part (gnum n) = gnil
left_part (gcons a b) = a

abbrev right_part : Gv → Gv
right_part gnil = gnil
right_part (gnum n) = gnil
right_part (gcons a b) = b

mutual
  pub code_once : (s t : WideValue) → code_of s ≡ code_of t → s ≡ t
  code_once (text a o) (text b p) e =
      let words : a ≡ b = bytes_code.inj a b (ap (λ g. left_part (right_part g)) e) in
      let origins : o ≡ p = at_code.inj o p (ap (λ g. right_part (right_part g)) e) in
      cc
  code_once (text a o) (made m ks p) e = cc
  code_once (made l js o) (text b p) e = cc
  code_once (made l js o) (made m ks p) e =
      let labels : l ≡ m = bytes_code.inj l m (ap (λ g. left_part (right_part g)) e) in
      let parts : js ≡ ks = code_once_all js ks (ap (λ g. left_part (right_part (right_part g))) e) in
      let origins : o ≡ p = at_code.inj o p (ap (λ g. right_part (right_part (right_part g))) e) in
      cc

  code_once_all : (ss ts : WideValues) → code_of_all ss ≡ code_of_all ts → ss ≡ ts
  code_once_all none none e = refl
  code_once_all none (also t ts) e = cc
  code_once_all (also s ss) none e = cc
  code_once_all (also s ss) (also t ts) e =
      let first : s ≡ t = code_once s t (ap left_part e) in
      let others : ss ≡ ts = code_once_all ss ts (ap right_part e) in
      cc

abbrev pub coded_WideValue : Coded WideValue
coded_WideValue = record { code = code_of; inj = code_once }
