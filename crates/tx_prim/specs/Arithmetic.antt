-- The rows on numbers, lengths and truths.
use Rattle.std.specs.Prelude.{ℕ, Bool, true, false, not, nat_le, nat_lt, if◌then◌else◌, List, [], ◌∷◌, length, ℤ}
use Rattle.std.specs.Prelude.{pos, neg_ℤ, ◌+ℤ◌, ◌-ℤ◌, ◌*ℤ◌, int_div, count_by, Option, Some, None, option_and_then}
use Rattle.std.specs.List.{list_all, list_any}
use Rattle.std.specs.declared.cmp.Ordering.{Ordering}
use Rattle.std.specs.Ordering.{int_eq, int_cmp, nat_cmp, is_lt, is_le, is_gt, is_ge}
use Rattle.std.specs.Cmp.Lexicographic.{slice_cmp}
use Rattle.tx_tree.specs.WideTree.{WideTree, leaf, node}
use Rattle.tx_prim.specs.declared.amounts.Amount.{Amount}
use Rattle.tx_prim.specs.declared.amounts.Amount.TheVariants.{Number, Length}
use Rattle.tx_prim.specs.declared.amounts.ValueFault.TheVariants.{Bad, Overflow, Zero}
use Rattle.tx_prim.specs.declared.amounts.Answer.{Answer}
use Rattle.tx_prim.specs.declared.amounts.Answer.TheVariants.{Value, Truth, Failed}
use Rattle.tx_prim.specs.declared.amounts.Operation.{Operation}
use Rattle.tx_prim.specs.declared.amounts.Operation.TheVariants.{Add, Subtract, Multiply}
use Rattle.tx_prim.specs.declared.comparing.Comparison.{Comparison}
use Rattle.tx_prim.specs.declared.comparing.Comparison.TheVariants.{Before, NotBehind, Behind, NotBefore}
use Rattle.tx_prim.specs.Numbers.{if_fits}
use Rattle.tx_prim.specs.Same.{is_same}
use Rattle.tx_prim.specs.Operands.{amount_of}

abbrev pub amount_size : Amount → ℤ
amount_size (Number z) = z
amount_size (Length z) = z

abbrev pub is_length : Amount → Bool
is_length (Number z) = false
is_length (Length z) = true

-- both are numbers, or both are lengths
abbrev pub are_alike : Amount → Amount → Bool
are_alike (Number x) (Number y) = true
are_alike (Length x) (Length y) = true
are_alike (Number x) (Length y) = false
are_alike (Length x) (Number y) = false

-- a length, or a number, if 64 bits hold it
abbrev pub amount : Bool → ℤ → Amount
amount true z = Length z
amount false z = Number z

abbrev pub if_held : Bool → Option ℤ → Answer
if_held long (Some z) = Value (amount long z)
if_held long None = Failed Overflow

abbrev pub operation : Operation → ℤ → ℤ → ℤ
operation Add x y = x +ℤ y
operation Subtract x y = x -ℤ y
operation Multiply x y = x *ℤ y

-- from the left, where 64 bits hold the result of each step
abbrev pub folded : Operation → ℤ → List Amount → Option ℤ
folded op x [] = Some x
folded op x (a ∷ others) = option_and_then (λ z. folded op z others) (if_fits (operation op x (amount_size a)))

-- one or more numbers, or one or more lengths
abbrev pub total : Operation → List Amount → Answer
total op [] = Failed Bad
total op (a ∷ others) =
    if list_all (are_alike a) others then if_held (is_length a) (folded op (amount_size a) others) else Failed Bad

abbrev pub plus : List Amount → Answer
plus amounts = total Add amounts

abbrev pub minus : List Amount → Answer
minus (a ∷ []) = if_held (is_length a) (if_fits (neg_ℤ (amount_size a)))
minus amounts = total Subtract amounts

-- one or more, of which one may be a length
abbrev pub times : List Amount → Answer
times [] = Failed Bad
times (a ∷ others) =
    if nat_le (count_by is_length (a ∷ others)) 1
    then if_held (list_any is_length (a ∷ others)) (folded Multiply (amount_size a) others)
    else Failed Bad

-- the quotient, cut toward zero
abbrev pub divided : Bool → ℤ → ℤ → Answer
divided long x y = if int_eq y (pos 0) then Failed Zero else if_held long (if_fits (int_div x y))

abbrev pub quotient : Amount → Amount → Answer
quotient (Number x) (Number y) = divided false x y
quotient (Length x) (Number y) = divided true x y
quotient (Length x) (Length y) = divided false x y
quotient (Number x) (Length y) = Failed Bad

-- the first less their quotient times the second, which is no further from 0 than the first
abbrev pub rest_of : ℤ → ℤ → ℤ
rest_of x y = x -ℤ int_div x y *ℤ y

abbrev pub left_over : Bool → ℤ → ℤ → Answer
left_over long x y = if int_eq y (pos 0) then Failed Zero else Value (amount long (rest_of x y))

abbrev pub remainder : Amount → Amount → Answer
remainder (Number x) (Number y) = left_over false x y
remainder (Length x) (Length y) = left_over true x y
remainder a b = Failed Bad

-- a row for two operands
abbrev pub of_two : (Amount → Amount → Answer) → List Amount → Answer
of_two row (a ∷ b ∷ []) = row a b
of_two row amounts = Failed Bad

-- two numbers, else two lengths, else two texts by their bytes
abbrev pub order_of : Option Amount → Option Amount → List ℕ → List ℕ → Ordering
order_of (Some (Number x)) (Some (Number y)) s t = int_cmp x y
order_of (Some (Length x)) (Some (Length y)) s t = int_cmp x y
order_of a b s t = slice_cmp nat_cmp s t

abbrev pub accepts : Comparison → Ordering → Bool
accepts Before = is_lt
accepts NotBehind = is_le
accepts Behind = is_gt
accepts NotBefore = is_ge

abbrev pub compared : Comparison → List WideTree → Answer
compared comparison (leaf s ∷ leaf t ∷ []) = Truth (accepts comparison (order_of (amount_of s) (amount_of t) s t))
compared comparison operands = Failed Bad

-- whether two trees are the same, or whether they differ
abbrev pub sameness : Bool → List WideTree → Answer
sameness wanted (s ∷ t ∷ []) = Truth (if wanted then is_same s t else not (is_same s t))
sameness wanted operands = Failed Bad

-- one or more
abbrev pub all_true : List Bool → Answer
all_true truths = if nat_lt 0 (length truths) then Truth (list_all (λ x. x) truths) else Failed Bad

abbrev pub some_true : List Bool → Answer
some_true truths = if nat_lt 0 (length truths) then Truth (list_any (λ x. x) truths) else Failed Bad

abbrev pub one_true : List Bool → Answer
one_true (a ∷ b ∷ []) = Truth (if a then not b else b)
one_true truths = Failed Bad

abbrev pub none_true : List Bool → Answer
none_true (a ∷ []) = Truth (not a)
none_true truths = Failed Bad
