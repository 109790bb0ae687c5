-- Reading byte by byte.
use Rattle.std.specs.Prelude.{ℕ, Bool, true, false, nat_lt, nat_le, ◌&&◌}
use Rattle.std.specs.Prelude.{List, [], ◌∷◌, ◌++◌, length, Option, Some, None}
use Rattle.tx_tree.specs.declared.TheConstants.{MOST_TEXT, MOST_ARITY, MOST_DEPTH, MOST_SIZE, MOST_LABEL}
use Rattle.tx_tree.specs.TextScan.{is_text, begins_text}
use Rattle.tx_tree.specs.WideTree.{WideTree, leaf, node, forest, text_length_of, arity_of, depth_of, size_of}
use Rattle.tx_scm.specs.declared.kinds.Kind.{Kind}
use Rattle.tx_scm.specs.declared.kinds.Kind.TheVariants.{White, Opens, Closes, Quote, Backslash, Letter}
use Rattle.tx_scm.specs.Kinds.{kind_of}

-- an open bracket: its label, and its trees so far
pub record Open : Type 0 where
  pub label : List ℕ
  pub children : List WideTree

-- where the reading is, and the open brackets around it, the innermost first
pub data State : Type 0 where
  between : (opens : List Open) → State
  opened : (opens : List Open) → State
  naming : (label : List ℕ) (opens : List Open) → State
  texting : (text : List ℕ) (opens : List Open) → State
  escaping : (text : List ℕ) (opens : List Open) → State
  whole : (t : WideTree) → State
  failed : State

-- what is let in: one more tree in the innermost bracket, one more byte of a text, a finished node
pub record Bounds : Type 0 where
  pub room : List Open → Bool
  pub longer : List ℕ → Bool
  pub keeps : WideTree → Bool

-- the most of a text, an arity, a depth and a size
pub record Limits : Type 0 where
  pub text : ℕ
  pub arity : ℕ
  pub depth : ℕ
  pub size : ℕ

abbrev pub the_limits : Limits
the_limits = record { text = MOST_TEXT; arity = MOST_ARITY; depth = MOST_DEPTH; size = MOST_SIZE }

abbrev pub has_place : Limits → List Open → Bool
has_place limits [] = true
has_place limits (o ∷ opens) = nat_lt (length o.children) limits.arity

abbrev pub has_tree_room : Limits → List Open → Bool
has_tree_room limits opens = nat_lt (length opens) limits.depth && has_place limits opens

unfoldable pub may_keep : Limits → WideTree → Bool
may_keep limits t = nat_le (text_length_of t) limits.text
    && (nat_le (arity_of t) limits.arity && (nat_le (depth_of t) limits.depth && nat_le (size_of t) limits.size))

abbrev pub within : Limits → Bounds
within limits =
    record { room = has_tree_room limits; longer = λ text. nat_lt (length text) limits.text; keeps = may_keep limits }

-- everything is let in
abbrev pub wide : Bounds
wide = record { room = λ opens. true; longer = λ text. true; keeps = λ t. true }

abbrev pub only_if : Bool → State → State
only_if true s = s
only_if false s = failed

-- a tree more
abbrev pub put_tree : WideTree → List Open → State
put_tree t [] = whole t
put_tree t (o ∷ opens) = between (record { label = o.label; children = o.children ++ t ∷ [] } ∷ opens)

abbrev pub node_of : Open → WideTree
node_of o = node o.label (forest o.children)

abbrev pub closed : Bounds → List Open → State
closed bounds [] = failed
closed bounds (o ∷ opens) = only_if (bounds.keeps (node_of o)) (put_tree (node_of o) opens)

unfoldable pub step_between : Bounds → List Open → Kind → State
step_between bounds opens White = between opens
step_between bounds opens Opens = only_if (bounds.room opens) (opened opens)
step_between bounds opens Quote = only_if (bounds.room opens) (texting [] opens)
step_between bounds opens Closes = closed bounds opens
step_between bounds opens _ = failed

unfoldable pub step_opened : List Open → Kind → ℕ → State
step_opened opens White b = opened opens
step_opened opens Letter b = naming (b ∷ []) opens
step_opened opens _ b = failed

abbrev pub with_bracket : List ℕ → List Open → List Open
with_bracket label opens = record { label = label; children = [] } ∷ opens

unfoldable pub step_naming : Bounds → List ℕ → List Open → Kind → ℕ → State
step_naming bounds label opens Letter b = only_if (nat_lt (length label) MOST_LABEL) (naming (label ++ b ∷ []) opens)
step_naming bounds label opens kind b = step_between bounds (with_bracket label opens) kind

-- a byte more in a string
abbrev pub lengthened : Bounds → List ℕ → List Open → ℕ → State
lengthened bounds text opens b =
    only_if (bounds.longer text && begins_text (text ++ b ∷ [])) (texting (text ++ b ∷ []) opens)

unfoldable pub step_texting : Bounds → List ℕ → List Open → Kind → ℕ → State
step_texting bounds text opens Quote b = only_if (is_text text) (put_tree (leaf text) opens)
step_texting bounds text opens Backslash b = escaping text opens
step_texting bounds text opens _ b = lengthened bounds text opens b

unfoldable pub step_escaping : Bounds → List ℕ → List Open → Kind → ℕ → State
step_escaping bounds text opens Quote b = lengthened bounds text opens b
step_escaping bounds text opens Backslash b = lengthened bounds text opens b
step_escaping bounds text opens _ b = failed

unfoldable pub step_whole : WideTree → Kind → State
step_whole t White = whole t
step_whole t _ = failed

abbrev pub step : Bounds → State → Kind → ℕ → State
step bounds (between opens) kind b = step_between bounds opens kind
step bounds (opened opens) kind b = step_opened opens kind b
step bounds (naming label opens) kind b = step_naming bounds label opens kind b
step bounds (texting text opens) kind b = step_texting bounds text opens kind b
step bounds (escaping text opens) kind b = step_escaping bounds text opens kind b
step bounds (whole t) kind b = step_whole t kind
step bounds failed kind b = failed

abbrev pub run : Bounds → State → List ℕ → State
run bounds s [] = s
run bounds s (b ∷ bytes) = run bounds (step bounds s (kind_of b) b) bytes

abbrev pub tree_in : State → Option WideTree
tree_in (whole t) = Some t
tree_in _ = None

-- the tree that the bytes complete
abbrev pub completes : Bounds → State → List ℕ → Option WideTree
completes bounds s bytes = tree_in (run bounds s bytes)

-- the tree that the bytes complete, within the limits of trees
unfoldable pub reads : State → List ℕ → Option WideTree
reads s bytes = completes (within the_limits) s bytes

-- where the bytes lead, whatever the limits
unfoldable pub leads : State → List ℕ → State
leads s bytes = run wide s bytes
