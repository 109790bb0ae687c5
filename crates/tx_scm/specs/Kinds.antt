-- What a byte is to the Scheme syntax.
use Rattle.std.specs.Prelude.{ℕ, ◌==◌, if◌then◌else◌}
use Rattle.tx_tree.specs.Labels.{is_label_byte}
use Rattle.tx_scm.specs.Spelling.{is_white}
use Rattle.tx_scm.specs.declared.kinds.Kind.{Kind}
use Rattle.tx_scm.specs.declared.kinds.Kind.TheVariants.{White, Opens, Closes, Quote, Backslash, Letter, Other}

unfoldable pub kind_of : ℕ → Kind
kind_of b =
    if is_white b then White
    else if b == 40 then Opens
    else if b == 41 then Closes
    else if b == 34 then Quote
    else if b == 92 then Backslash
    else if is_label_byte b then Letter
    else Other
