-- How far bytes can be the beginning of a tree, byte by byte.
use Rattle.std.specs.Prelude.{ℕ, zero, suc, ◌+◌, Bool, true, false, nat_lt, is_some, List, [], ◌∷◌, Option, Some, None}
use Rattle.tx_tree.specs.declared.TheConstants.{MOST_LABEL}
use Rattle.tx_tree.specs.declared.texts.TextPlace.{TextPlace}
use Rattle.tx_tree.specs.declared.texts.TextPlace.TheVariants.{Between as BetweenItems, InSymbol}
use Rattle.tx_tree.specs.declared.faults.ReadFault.{ReadFault}
use Rattle.tx_tree.specs.declared.faults.ReadFault.TheVariants.{Stray, BadEscape, BadLabel, BadText, After}
use Rattle.tx_tree.specs.TextScan.{text_step}
use Rattle.tx_scm.specs.declared.kinds.Kind.{Kind}
use Rattle.tx_scm.specs.declared.kinds.Kind.TheVariants.{White, Opens, Closes, Quote, Backslash, Letter}
use Rattle.tx_scm.specs.declared.spots.Spot.{Spot}
use Rattle.tx_scm.specs.declared.spots.Spot.TheVariants.{Between, Opened, Naming, Texting, Escaping, Whole}
use Rattle.tx_scm.specs.Kinds.{kind_of}

-- how many brackets are open
abbrev pub depth_in : Spot → ℕ
depth_in (Between depth) = depth
depth_in (Opened depth) = depth
depth_in (Naming length depth) = depth
depth_in (Texting place depth) = depth
depth_in (Escaping place depth) = depth
depth_in Whole = 0

-- after a tree in so many brackets
abbrev pub after_tree : ℕ → Spot
after_tree zero = Whole
after_tree (suc depth) = Between (suc depth)

-- after a closing bracket
abbrev pub closed : ℕ → Option Spot
closed zero = None
closed (suc depth) = Some (after_tree depth)

abbrev pub only_if : Bool → Spot → Option Spot
only_if true s = Some s
only_if false s = None

unfoldable pub between_step : ℕ → Kind → Option Spot
between_step depth White = Some (Between depth)
between_step depth Opens = Some (Opened depth)
between_step depth Quote = Some (Texting BetweenItems depth)
between_step depth Closes = closed depth
between_step depth _ = None

unfoldable pub opened_step : ℕ → Kind → Option Spot
opened_step depth White = Some (Opened depth)
opened_step depth Letter = Some (Naming 1 depth)
opened_step depth _ = None

unfoldable pub naming_step : ℕ → ℕ → Kind → Option Spot
naming_step length depth Letter = only_if (nat_lt length MOST_LABEL) (Naming (length + 1) depth)
naming_step length depth kind = between_step (depth + 1) kind

-- in a text at the place, if there is one
abbrev pub in_text : Option TextPlace → ℕ → Option Spot
in_text None depth = None
in_text (Some place) depth = Some (Texting place depth)

abbrev pub lengthened : TextPlace → ℕ → ℕ → Option Spot
lengthened place depth b = in_text (text_step place b) depth

-- after the quote that ends a text
abbrev pub text_ends : TextPlace → ℕ → Option Spot
text_ends BetweenItems depth = Some (after_tree depth)
text_ends (InSymbol length) depth = None

-- A backslash escapes a quote or a backslash. A text goes on with both, or with neither, so only a quote is tested
-- here.
unfoldable pub texting_step : TextPlace → ℕ → Kind → ℕ → Option Spot
texting_step place depth Quote b = text_ends place depth
texting_step place depth Backslash b = only_if (is_some (text_step place 34)) (Escaping place depth)
texting_step place depth _ b = lengthened place depth b

unfoldable pub escaping_step : TextPlace → ℕ → Kind → ℕ → Option Spot
escaping_step place depth Quote b = lengthened place depth b
escaping_step place depth Backslash b = lengthened place depth b
escaping_step place depth _ b = None

abbrev pub whole_step : Kind → Option Spot
whole_step White = Some Whole
whole_step _ = None

abbrev pub step : Spot → Kind → ℕ → Option Spot
step (Between depth) kind b = between_step depth kind
step (Opened depth) kind b = opened_step depth kind
step (Naming length depth) kind b = naming_step length depth kind
step (Texting place depth) kind b = texting_step place depth kind b
step (Escaping place depth) kind b = escaping_step place depth kind b
step Whole kind b = whole_step kind

-- where the scan is after more bytes
abbrev pub spots : Option Spot → List ℕ → Option Spot
spots None bytes = None
spots (Some s) [] = Some s
spots (Some s) (b ∷ bytes) = spots (step s (kind_of b) b) bytes

-- the fault at a place, where no tree goes on from there
abbrev pub fault_at : Spot → ℕ → ReadFault
fault_at (Between depth) at = Stray at
fault_at (Opened depth) at = BadLabel at
fault_at (Naming length depth) at = BadLabel at
fault_at (Texting place depth) at = BadText at
fault_at (Escaping place depth) at = BadEscape at
fault_at Whole at = After at

-- the scan of a file goes on after these first bytes
abbrev pub scan_goes_on : List ℕ → Bool
scan_goes_on bytes = is_some (spots (Some (Between 0)) bytes)
