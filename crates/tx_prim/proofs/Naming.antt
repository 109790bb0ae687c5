-- Each primitive is found by its name.
use Rattle.std.proofs.Common.{◌≡◌, Some, refl}
use Rattle.tx_prim.specs.declared.names.Prim.{Prim}
use Rattle.tx_prim.specs.declared.names.Prim.TheVariants.{Plus, Minus, Times, Div, Mod, Equal, Unequal, Less, LessEq}
use Rattle.tx_prim.specs.declared.names.Prim.TheVariants.{Greater, GreaterEq, And, Or, Xor, Not, Merge, Length, Range}
use Rattle.tx_prim.specs.declared.names.Prim.TheVariants.{IsTuple, LookUp, GetLabel, GetArity}
use Rattle.tx_prim.specs.Names.{name_of, named}

pub found : (p : Prim) → named (name_of p) ≡ Some p
found Plus = refl
found Minus = refl
found Times = refl
found Div = refl
found Mod = refl
found Equal = refl
found Unequal = refl
found Less = refl
found LessEq = refl
found Greater = refl
found GreaterEq = refl
found And = refl
found Or = refl
found Xor = refl
found Not = refl
found Merge = refl
found Length = refl
found Range = refl
found IsTuple = refl
found LookUp = refl
found GetLabel = refl
found GetArity = refl
