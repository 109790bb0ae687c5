-- The names of the primitives, and the words of their errors.
use Rattle.std.specs.Prelude.{ℕ, Bool, List, [], ◌∷◌, codes, find, Option}
use Rattle.std.specs.Str.{bytes_eq}
use Rattle.tx_prim.specs.declared.names.Prim.{Prim}
use Rattle.tx_prim.specs.declared.names.Prim.TheVariants.{Plus, Minus, Times, Div, Mod, Equal, Unequal, Less}
use Rattle.tx_prim.specs.declared.names.Prim.TheVariants.{LessEq, Greater, GreaterEq, And, Or, Xor, Not, Merge}
use Rattle.tx_prim.specs.declared.names.Prim.TheVariants.{Length, Range, IsTuple, LookUp, GetLabel, GetArity}
use Rattle.tx_prim.specs.declared.amounts.ValueFault.{ValueFault}
use Rattle.tx_prim.specs.declared.amounts.ValueFault.TheVariants.{Bad, Overflow, Zero, NoPart, Limit}

abbrev pub name_of : Prim → List ℕ
name_of Plus = codes "plus"
name_of Minus = codes "minus"
name_of Times = codes "times"
name_of Div = codes "div"
name_of Mod = codes "mod"
name_of Equal = codes "equal"
name_of Unequal = codes "unequal"
name_of Less = codes "less"
name_of LessEq = codes "lesseq"
name_of Greater = codes "greater"
name_of GreaterEq = codes "greatereq"
name_of And = codes "and"
name_of Or = codes "or"
name_of Xor = codes "xor"
name_of Not = codes "not"
name_of Merge = codes "merge"
name_of Length = codes "length"
name_of Range = codes "range"
name_of IsTuple = codes "is-tuple"
name_of LookUp = codes "look-up"
name_of GetLabel = codes "get-label"
name_of GetArity = codes "get-arity"

abbrev pub primitives : List Prim
primitives =
    Plus ∷ Minus ∷ Times ∷ Div ∷ Mod ∷ Equal ∷ Unequal ∷ Less ∷ LessEq ∷ Greater ∷ GreaterEq ∷ And ∷ Or ∷ Xor ∷ Not
    ∷ Merge ∷ Length ∷ Range ∷ IsTuple
    ∷ LookUp ∷ GetLabel ∷ GetArity ∷ []

-- the primitive of this name
abbrev pub named : List ℕ → Option Prim
named name = find (λ p. bytes_eq (name_of p) name) primitives

abbrev pub fault_text : ValueFault → List ℕ
fault_text Bad = codes "bad"
fault_text Overflow = codes "overflow"
fault_text Zero = codes "zero"
fault_text NoPart = codes "no-part"
fault_text Limit = codes "limit"
