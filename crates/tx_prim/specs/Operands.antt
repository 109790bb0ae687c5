-- What operands are read as.
use Rattle.std.specs.Prelude.{◌≡◌, ◌≤◌, ℕ, ◌-◌, Bool, true, false, ◌&&◌, nat_le, if◌then◌else◌, List, [], ◌∷◌}
use Rattle.std.specs.Prelude.{length, take, drop, ℤ, pos, negsuc, codes, Option, Some, None, option_and_then}
use Rattle.std.specs.Option.{option_map}
use Rattle.std.specs.Str.{bytes_eq}
use Rattle.tx_tree.specs.declared.TheConstants.{MOST_TEXT, MOST_ARITY}
use Rattle.tx_tree.specs.WideTree.{WideTree, leaf, node, trees, forest, deepest, widest, longest_text, text_of}
use Rattle.tx_prim.specs.declared.amounts.Amount.{Amount}
use Rattle.tx_prim.specs.declared.amounts.Amount.TheVariants.{Number, Length}
use Rattle.tx_prim.specs.Numbers.{integer_of}
use Rattle.tx_prim.specs.Lengths.{length_of}

-- what each operand is read as, where all can be
abbrev pub every : {A : Type 0} → (WideTree → Option A) → List WideTree → Option (List A)
every reading [] = Some []
every reading (t ∷ ts) = option_and_then (λ a. option_map (λ others. a ∷ others) (every reading ts)) (reading t)

-- a text as a number
abbrev pub integer_in : WideTree → Option ℤ
integer_in t = option_and_then integer_of (text_of t)

-- a number, or else a length
abbrev pub amount_from : Option ℤ → Option ℤ → Option Amount
amount_from (Some z) length = Some (Number z)
amount_from None (Some z) = Some (Length z)
amount_from None None = None

abbrev pub amount_of : List ℕ → Option Amount
amount_of text = amount_from (integer_of text) (length_of text)

abbrev pub amount_in : WideTree → Option Amount
amount_in t = option_and_then amount_of (text_of t)

-- one of the texts true and false
abbrev pub truth_of : List ℕ → Option Bool
truth_of text =
    if bytes_eq text (codes "true") then Some true else (if bytes_eq text (codes "false") then Some false else None)

abbrev pub truth_in : WideTree → Option Bool
truth_in t = option_and_then truth_of (text_of t)

-- the children of a tuple
abbrev pub tuple_in : WideTree → Option (List WideTree)
tuple_in (leaf text) = None
tuple_in (node label ts) = if bytes_eq label (codes "tuple") then Some (trees ts) else None

-- from place i to before j, where 0, i, j and the length are in rising order
abbrev pub part : {A : Type 0} → ℤ → ℤ → List A → Option (List A)
part (pos i) (pos j) xs = if nat_le i j && nat_le j (length xs) then Some (take (j - i) (drop i xs)) else None
part i j xs = None

-- no tree is deeper than a child may be, and none is past a limit
pub record AreShallow (ts : List WideTree) : Type 0 where
  pub depth : deepest (forest ts) ≤ 399
  pub text : longest_text (forest ts) ≤ MOST_TEXT
  pub arity : widest (forest ts) ≤ MOST_ARITY

-- i and j are these places of a list of n elements
abbrev pub IsRising : ℤ → ℤ → ℕ → Option (ℕ × ℕ) → Type 0
IsRising i j n (Some p) = (i ≡ pos p.0) × (j ≡ pos p.1) × (p.0 ≤ p.1) × (p.1 ≤ n)
IsRising i j n None = (p q : ℕ) → i ≡ pos p → j ≡ pos q → p ≤ q → q ≤ n → ⊥
