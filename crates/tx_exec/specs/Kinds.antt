-- Kinds of rows, by the functions that tell them apart.
use Rattle.tx_exec_form.specs.Runs.{over}
use Rattle.tx_exec_form.specs.Rows.{Eval, EvalAll}
use Rattle.tx_exec_form.specs.declared.rows.Row.{Row}
use Rattle.tx_exec_form.specs.declared.rows.Row.TheVariants as rows

-- none of those of several children, or of any number
abbrev pub IsOther : Row → Type 0
IsOther rows.Same = ⊥
IsOther rows.Assign = ⊥
IsOther rows.With = ⊥
IsOther rows.Tag = ⊥
IsOther kind = Unit {0}

-- none of those of one child, or of an argument, besides
abbrev pub IsFlow : Row → Type 0
IsFlow rows.Same = ⊥
IsFlow rows.Assign = ⊥
IsFlow rows.With = ⊥
IsFlow rows.Tag = ⊥
IsFlow rows.Value = ⊥
IsFlow rows.Provides = ⊥
IsFlow rows.Eval = ⊥
IsFlow rows.Arg = ⊥
IsFlow rows.QuoteArg = ⊥
IsFlow kind = Unit {0}

-- those that evaluate no part
abbrev pub IsStill : Row → Type 0
IsStill rows.Refused = Unit {0}
IsStill rows.RawData = Unit {0}
IsStill rows.DrdProps = Unit {0}
IsStill rows.Macro = Unit {0}
IsStill rows.XMacro = Unit {0}
IsStill rows.Quote = Unit {0}
IsStill kind = ⊥

-- they never evaluate to these
abbrev pub nothing : Eval
nothing = λ t f. over

abbrev pub nothing_all : EvalAll
nothing_all = λ ts f. over
