-- The table of evaluation: a row for each label. `k` is the number of levels, with the row's own. `below` evaluates a
-- tree with one level less. `below_all` evaluates, with one level less, the tuple of trees that have origins of their
-- own. `f` is the frame.
use Rattle.std.specs.Prelude.{ℕ, zero, suc, ◌+◌, ◌-◌, Bool, true, false, ◌&&◌, nat_le, if◌then◌else◌, List, [], ◌∷◌}
use Rattle.std.specs.Prelude.{◌++◌, length, map, ℤ, Option, Some, None, option_and_then, codes}
use Rattle.std.specs.Str.{bytes_eq}
use Rattle.std.specs.Fmt.{decimal}
use Rattle.std.specs.FinMap.{get}
use Rattle.tx_tree.specs.WideTree.{WideTree, leaf, node, forest, children_of, size_of, depth_of, total_nodes}
use Rattle.tx_prim.specs.declared.names.Prim.{Prim}
use Rattle.tx_prim.specs.Names.{named as primitive_named}
use Rattle.tx_prim.specs.Operands.{truth_of}
use Rattle.tx_prim.specs.Table.{primitive_value}
use Rattle.tx_origin.specs.Values.{WideValue, text, made, none, vals, value_text, plain, plains, whole}
use Rattle.tx_origin.specs.TaggedTrees.{TaggedTree, kids_from, kids_of}
use Rattle.tx_env.specs.Pairs.{Name}
use Rattle.tx_env.specs.Environments.{NameMap}
use Rattle.tx_exec_form.specs.Runs.{Run, Done, ◌>>=◌, ◌>>◌, give, over, pay, need, look, set}
use Rattle.tx_exec_form.specs.Frames.{Frame, call, call_all, caller_of, Found, Unbound, Missing, Here, All, argument_in}
use Rattle.tx_exec_form.specs.Numbers.{integers_of, part_of, part_among, from_number, to_number, numbers_between}
use Rattle.tx_exec_form.specs.Words.{row_of, is_label}
use Rattle.tx_exec_form.specs.declared.TheConstants.{MOST_TURNS}
use Rattle.tx_exec_form.specs.declared.rows.Row.{Row}
use Rattle.tx_exec_form.specs.declared.rows.Row.TheVariants as rows
use Rattle.tx_exec_form.specs.declared.rows.Unary.{Unary}
use Rattle.tx_exec_form.specs.declared.rows.Unary.TheVariants as unaries
use Rattle.tx_exec_form.specs.declared.rows.Taking.{Taking}
use Rattle.tx_exec_form.specs.declared.rows.Taking.TheVariants as takings

abbrev pub Eval : Type 0
Eval = TaggedTree → Frame → Run WideValue

abbrev pub EvalAll : Type 0
EvalAll = List TaggedTree → Frame → Run WideValue

-- ---- errors and values taken

-- (error "kind" "detail")
abbrev pub error_node : List ℕ → List ℕ → WideValue
error_node kind detail = made (codes "error") (vals (text kind None ∷ text detail None ∷ [])) None

-- an error needs two levels and costs its size
unfoldable pub wrong : ℕ → List ℕ → List ℕ → Run WideValue
wrong k kind detail = do
  need 2 k
  pay (3 + length kind + length detail)
  give (error_node kind detail)

-- a value taken needs as many levels as it is deep
unfoldable pub taken : ℕ → WideValue → Run WideValue
taken k v = do
  need (depth_of (plain v)) k
  pay (size_of (plain v))
  give v

-- ---- children evaluated in order

-- after the values so far
abbrev pub each : Eval → Frame → List WideValue → List TaggedTree → Run (List WideValue)
each below f vs [] = give vs
each below f vs (t ∷ ts) = do
  v ← below t f
  each below f (vs ++ v ∷ []) ts

-- the same label with its children evaluated
unfoldable pub rebuilt : Eval → Frame → List ℕ → List TaggedTree → Option (List ℕ) → Run WideValue
rebuilt below f label kids at = do
  vs ← each below f [] kids
  give (made label (vals vs) at)

-- a name goes on, and anything else is the error `bad`
abbrev pub if_text : ℕ → List ℕ → (Name → Run WideValue) → Option Name → Run WideValue
if_text k label go (Some x) = go x
if_text k label go None = wrong k (codes "bad") label

-- ---- assign

unfoldable pub stored : List ℕ → Option (List ℕ) → WideValue → Name → WideValue → Run WideValue
stored label at name x v = do
  pay (size_of (plain v))
  set x (Some (plain v))
  give (made label (vals (name ∷ v ∷ [])) at)

unfoldable pub assigned : ℕ → Eval → Frame → List ℕ → Option (List ℕ) → TaggedTree → TaggedTree → Run WideValue
assigned k below f label at x t = do
  name ← below x f
  if_text k label (λ n. below t f >>= stored label at name n) (value_text name)

abbrev pub assign : ℕ → Eval → Frame → List ℕ → Option (List ℕ) → List TaggedTree → Run WideValue
assign k below f label at (x ∷ t ∷ []) = assigned k below f label at x t
assign k below f label at other = wrong k (codes "bad") label

-- ---- with

-- names with what they are to have
abbrev pub Sets : Type 0
Sets = List (Name × Option WideTree)

unfoldable pub set_all : Sets → Run (Unit {0})
set_all [] = give tt
set_all (p ∷ ps) = do
  set p.0 p.1
  set_all ps

abbrev pub size_or_zero : Option WideTree → ℕ
size_or_zero None = 0
size_or_zero (Some t) = size_of t

abbrev pub sizes : Sets → ℕ
sizes [] = 0
sizes (p ∷ ps) = size_or_zero p.1 + sizes ps

-- the names with what the evaluation has set them to, or nothing
abbrev pub kept_of : Sets → NameMap → Sets
kept_of [] own = []
kept_of (p ∷ ps) own = (p.0, get own p.0) ∷ kept_of ps own

unfoldable pub kept : Sets → Run Sets
kept ps = λ e s. Done (kept_of ps s.own) s

-- all are set, the body is evaluated, and then each name has again what it had
unfoldable pub with_body : Eval → Frame → List ℕ → Option (List ℕ) → List WideValue → Sets → TaggedTree → Run WideValue
with_body below f label at vs ps b = do
  pay (sizes ps)
  old ← kept ps
  set_all ps
  v ← below b f
  set_all old
  give (made label (vals (vs ++ v ∷ [])) at)

-- `vs` are the values so far, and `ps` the names with what they are to have
abbrev pub with_parts : ℕ → Eval → Frame → List ℕ → Option (List ℕ) → List WideValue → Sets → List TaggedTree →
    Run WideValue
with_parts k below f label at vs ps [] = wrong k (codes "bad") label
with_parts k below f label at vs ps (b ∷ []) = with_body below f label at vs ps b
with_parts k below f label at vs ps (x ∷ t ∷ ts) = do
  name ← below x f
  if_text k label (λ n. below t f >>=
      λ v. with_parts k below f label at (vs ++ name ∷ v ∷ []) (ps ++ (n, Some (plain v)) ∷ []) ts) (value_text name)

abbrev pub is_odd : {A : Type 0} → List A → Bool
is_odd [] = false
is_odd (x ∷ []) = true
is_odd (x ∷ y ∷ ts) = is_odd ts

abbrev pub with_row : ℕ → Eval → Frame → List ℕ → Option (List ℕ) → List TaggedTree → Run WideValue
with_row k below f label at kids =
    if is_odd kids then with_parts k below f label at [] [] kids else wrong k (codes "bad") label

-- ---- value, provides and eval: one child

abbrev pub value_found : ℕ → Name → Option WideTree → Run WideValue
value_found k x (Some t) = taken k (whole None t)
value_found k x None = wrong k (codes "undefined") x

unfoldable pub value_of : ℕ → List ℕ → WideValue → Run WideValue
value_of k label v = if_text k label (λ x. look x >>= value_found k x) (value_text v)

abbrev pub truth : Option WideTree → List ℕ
truth (Some t) = codes "true"
truth None = codes "false"

unfoldable pub provides_of : ℕ → List ℕ → WideValue → Run WideValue
provides_of k label v = if_text k label (λ x. look x >>= λ t. taken k (text (truth t) None)) (value_text v)

unfoldable pub eval_of : Eval → Frame → WideValue → Run WideValue
eval_of below f v = do
  pay (size_of (plain v))
  below (record { tree = plain v; at = None }) f

-- what is done with the value of the one child
abbrev pub unary_run : Unary → ℕ → Eval → Frame → List ℕ → WideValue → Run WideValue
unary_run unaries.Value k below f label v = value_of k label v
unary_run unaries.Provides k below f label v = provides_of k label v
unary_run unaries.Eval k below f label v = eval_of below f v

unfoldable pub only_child : Unary → ℕ → Eval → Frame → List ℕ → TaggedTree → Run WideValue
only_child unary k below f label t = below t f >>= unary_run unary k below f label

abbrev pub unary_row : Unary → ℕ → Eval → Frame → List ℕ → List TaggedTree → Run WideValue
unary_row unary k below f label (t ∷ []) = only_child unary k below f label t
unary_row unary k below f label other = wrong k (codes "bad") label

-- ---- quote, macro and xmacro

abbrev pub quote : ℕ → List ℕ → List TaggedTree → Run WideValue
quote k label (t ∷ []) = taken k (whole t.at t.tree)
quote k label other = wrong k (codes "bad") label

-- the tree itself; of its size, the step of the node is paid already
abbrev pub itself : ℕ → TaggedTree → Run WideValue
itself k t = do
  need (depth_of t.tree) k
  pay (size_of t.tree - 1)
  give (whole t.at t.tree)

abbrev pub macro : ℕ → List ℕ → TaggedTree → List TaggedTree → Run WideValue
macro k label t [] = wrong k (codes "bad") label
macro k label t (x ∷ ts) = itself k t

-- a parameter and a body
abbrev pub xmacro : ℕ → List ℕ → TaggedTree → List TaggedTree → Run WideValue
xmacro k label t (x ∷ b ∷ []) = itself k t
xmacro k label t other = wrong k (codes "bad") label

-- ---- arg and quote-arg

-- what was found is evaluated in the frame of the caller, or taken unevaluated
unfoldable pub used : Taking → ℕ → Eval → Frame → TaggedTree → Run WideValue
used takings.Evaluated k below f t = below t (caller_of f)
used takings.Quoted k below f t = taken k (whole t.at t.tree)

abbrev pub part_used : Taking → ℕ → Eval → Frame → Name → Option TaggedTree → Run WideValue
part_used taking k below f x (Some t) = used taking k below f t
part_used taking k below f x None = wrong k (codes "no-part") x

abbrev pub numbered : Taking → ℕ → Eval → Frame → List ℕ → Name → TaggedTree → Option (List ℤ) → Run WideValue
numbered taking k below f label x t (Some ns) = part_used taking k below f x (part_of t ns)
numbered taking k below f label x t None = wrong k (codes "bad") label

-- the numbers are all evaluated, and then judged
unfoldable pub arg_part : Taking → ℕ → Eval → Frame → List ℕ → Name → TaggedTree → List TaggedTree → Run WideValue
arg_part taking k below f label x t numbers = do
  vs ← each below f [] numbers
  numbered taking k below f label x t (integers_of vs)

-- the tuple of all arguments, which has no origin itself
abbrev pub tuple_of : List TaggedTree → WideValue
tuple_of ts = made (codes "tuple") (vals (map (λ t. whole t.at t.tree) ts)) None

unfoldable pub all_used : Taking → ℕ → EvalAll → Frame → List TaggedTree → Run WideValue
all_used takings.Evaluated k below_all f ts = below_all ts (caller_of f)
all_used takings.Quoted k below_all f ts = taken k (tuple_of ts)

abbrev pub all_numbered : Taking → ℕ → Eval → EvalAll → Frame → List ℕ → Name → List TaggedTree → Option (List ℤ) →
    Run WideValue
all_numbered taking k below below_all f label x ts (Some []) = all_used taking k below_all f ts
all_numbered taking k below below_all f label x ts (Some (n ∷ ns)) = part_used taking k below f x (part_among ts n ns)
all_numbered taking k below below_all f label x ts None = wrong k (codes "bad") label

-- as `arg_part`, for the parameter of an `xmacro`
unfoldable pub all_part : Taking → ℕ → Eval → EvalAll → Frame → List ℕ → Name → List TaggedTree → List TaggedTree →
    Run WideValue
all_part taking k below below_all f label x ts numbers = do
  vs ← each below f [] numbers
  all_numbered taking k below below_all f label x ts (integers_of vs)

abbrev pub arg_found : Taking → ℕ → Eval → EvalAll → Frame → List ℕ → Name → List TaggedTree → Found → Run WideValue
arg_found taking k below below_all f label x numbers Unbound = wrong k (codes "unbound") x
arg_found taking k below below_all f label x numbers Missing = wrong k (codes "missing") x
arg_found taking k below below_all f label x numbers (Here t) = arg_part taking k below f label x t numbers
arg_found taking k below below_all f label x numbers (All ts) = all_part taking k below below_all f label x ts numbers

unfoldable pub arg_of : Taking → ℕ → Eval → EvalAll → Frame → List ℕ → Name → List TaggedTree → Run WideValue
arg_of taking k below below_all f label x numbers =
    arg_found taking k below below_all f label x numbers (argument_in x f)

abbrev pub arg_named : Taking → ℕ → Eval → EvalAll → Frame → List ℕ → List TaggedTree → WideTree → Run WideValue
arg_named taking k below below_all f label numbers (leaf x) = arg_of taking k below below_all f label x numbers
arg_named taking k below below_all f label numbers (node l ts) = wrong k (codes "bad") label

-- a name, which isn't evaluated, and numbers
abbrev pub arg : Taking → ℕ → Eval → EvalAll → Frame → List ℕ → List TaggedTree → Run WideValue
arg taking k below below_all f label [] = wrong k (codes "bad") label
arg taking k below below_all f label (x ∷ numbers) = arg_named taking k below below_all f label numbers x.tree

-- ---- map-args

-- (foo (arg x i) i)
abbrev pub item_call : List ℕ → Name → ℕ → WideTree
item_call foo x i =
    node foo (forest (node (codes "arg") (forest (leaf x ∷ leaf (decimal i) ∷ [])) ∷ leaf (decimal i) ∷ []))

-- the tag `root` of such a call for each number
abbrev pub call_over : List ℕ → List ℕ → Name → List ℕ → WideTree
call_over foo root x numbers = node root (forest (map (item_call foo x) numbers))

-- a tree that is made is paid by its size, and evaluated without origins
unfoldable pub evaluated_made : Eval → Frame → WideTree → Run WideValue
evaluated_made below f t = do
  pay (size_of t)
  below (record { tree = t; at = None }) f

abbrev pub mapped : ℕ → Eval → Frame → List ℕ → List ℕ → Name → Option (List ℕ) → Run WideValue
mapped k below f foo root x (Some numbers) = evaluated_made below f (call_over foo root x numbers)
mapped k below f foo root x None = wrong k (codes "no-part") x

abbrev pub map_numbered : ℕ → Eval → Frame → List ℕ → List ℕ → List ℕ → Name → ℕ → Option (List ℤ) → Run WideValue
map_numbered k below f label foo root x count (Some ns) =
    mapped k below f foo root x (numbers_between count (from_number ns) (to_number count ns))
map_numbered k below f label foo root x count None = wrong k (codes "bad") label

-- so many parts: the numbers are all evaluated, and then judged
unfoldable pub map_parts : ℕ → Eval → Frame → List ℕ → List ℕ → List ℕ → Name → ℕ → List TaggedTree → Run WideValue
map_parts k below f label foo root x count numbers = do
  vs ← each below f [] numbers
  map_numbered k below f label foo root x count (integers_of vs)

-- the parts of an argument are its children, and those of all arguments are the arguments
abbrev pub map_found : ℕ → Eval → Frame → List ℕ → List ℕ → List ℕ → Name → List TaggedTree → Found → Run WideValue
map_found k below f label foo root x numbers Unbound = wrong k (codes "unbound") x
map_found k below f label foo root x numbers Missing = wrong k (codes "missing") x
map_found k below f label foo root x numbers (Here t) =
    map_parts k below f label foo root x (length (kids_of t)) numbers
map_found k below f label foo root x numbers (All ts) = map_parts k below f label foo root x (length ts) numbers

unfoldable pub map_args_run : ℕ → Eval → Frame → List ℕ → List ℕ → List ℕ → Name → List TaggedTree → Run WideValue
map_args_run k below f label foo root x numbers = map_found k below f label foo root x numbers (argument_in x f)

abbrev pub map_named : ℕ → Eval → Frame → List ℕ → List TaggedTree → WideTree → WideTree → WideTree → Run WideValue
map_named k below f label numbers (leaf foo) (leaf root) (leaf x) =
    if is_label foo && is_label root then map_args_run k below f label foo root x numbers
    else wrong k (codes "bad") label
map_named k below f label numbers foo root x = wrong k (codes "bad") label

-- two labels and a name, which aren't evaluated, and at most two numbers
abbrev pub map_args : ℕ → Eval → Frame → List ℕ → List TaggedTree → Run WideValue
map_args k below f label (foo ∷ root ∷ x ∷ []) = map_named k below f label [] foo.tree root.tree x.tree
map_args k below f label (foo ∷ root ∷ x ∷ a ∷ []) = map_named k below f label (a ∷ []) foo.tree root.tree x.tree
map_args k below f label (foo ∷ root ∷ x ∷ a ∷ b ∷ []) =
    map_named k below f label (a ∷ b ∷ []) foo.tree root.tree x.tree
map_args k below f label other = wrong k (codes "bad") label

-- ---- if, case and while

abbrev pub value_truth : WideValue → Option Bool
value_truth v = option_and_then truth_of (value_text v)

-- a condition that is true goes on with the one, one that is false with the other, and any other is the error `bad`
abbrev pub decided : ℕ → List ℕ → Run WideValue → Run WideValue → Option Bool → Run WideValue
decided k label go stop (Some true) = go
decided k label go stop (Some false) = stop
decided k label go stop None = wrong k (codes "bad") label

-- Conditions with a branch each, and a last branch or none: the branch of the first condition that is true, else the
-- last one, or the empty text.
abbrev pub chosen : ℕ → Eval → Frame → List ℕ → List TaggedTree → Run WideValue
chosen k below f label [] = taken k (text [] None)
chosen k below f label (b ∷ []) = below b f
chosen k below f label (c ∷ b ∷ ts) = do
  v ← below c f
  decided k label (below b f) (chosen k below f label ts) (value_truth v)

abbrev pub if_row : ℕ → Eval → Frame → List ℕ → List TaggedTree → Run WideValue
if_row k below f label kids =
    if nat_le 2 (length kids) && nat_le (length kids) 3 then chosen k below f label kids
    else wrong k (codes "bad") label

abbrev pub case_row : ℕ → Eval → Frame → List ℕ → List TaggedTree → Run WideValue
case_row k below f label kids =
    if nat_le 2 (length kids) then chosen k below f label kids else wrong k (codes "bad") label

unfoldable pub gathered : List WideValue → Run WideValue
gathered vs = give (made (codes "concat") (vals vs) None)

-- n turns are left, and `vs` are the values so far
unfoldable pub turns : ℕ → ℕ → Eval → Frame → List ℕ → TaggedTree → TaggedTree → List WideValue → Run WideValue
turns zero k below f label c b vs = do
  v ← below c f
  decided k label (wrong k (codes "limit") label) (gathered vs) (value_truth v)
turns (suc n) k below f label c b vs = do
  v ← below c f
  decided k label (below b f >>= λ w. turns n k below f label c b (vs ++ w ∷ [])) (gathered vs) (value_truth v)

abbrev pub while_row : ℕ → Eval → Frame → List ℕ → List TaggedTree → Run WideValue
while_row k below f label (c ∷ b ∷ []) = turns MOST_TURNS k below f label c b []
while_row k below f label other = wrong k (codes "bad") label

-- ---- names of the primitives

-- the table of the primitives on all children, without origins
unfoldable pub primitive : ℕ → Eval → Frame → Prim → List TaggedTree → Run WideValue
primitive k below f which kids = do
  vs ← each below f [] kids
  pay (total_nodes (plains (vals vs)))
  taken k (whole None (primitive_value which (map plain vs)))

-- ---- any other tag

abbrev pub and_name : Name → Option (List Name × WideTree) → Option (List Name × WideTree)
and_name x None = None
and_name x (Some p) = Some (x ∷ p.0, p.1)

-- the parameters and the body of a macro: texts and a last child
abbrev pub macro_in : List WideTree → Option (List Name × WideTree)
macro_in [] = None
macro_in (b ∷ []) = Some ([], b)
macro_in (leaf x ∷ y ∷ ts) = and_name x (macro_in (y ∷ ts))
macro_in (node l us ∷ y ∷ ts) = None

abbrev pub is_macro : WideTree → Bool
is_macro (leaf t) = false
is_macro (node l ts) = bytes_eq l (codes "macro")

-- the body, without origins, in the frame of this call
abbrev pub applied : ℕ → Eval → List ℕ → List TaggedTree → Frame → Option (List Name × WideTree) → Run WideValue
applied k below label kids f None = wrong k (codes "bad") label
applied k below label kids f (Some m) = below (record { tree = m.1; at = None }) (call m.0 kids f)

-- the parameter and the body of an `xmacro`: a text and a last child
abbrev pub xmacro_in : List WideTree → Option (Name × WideTree)
xmacro_in (leaf x ∷ b ∷ []) = Some (x, b)
xmacro_in other = None

abbrev pub is_xmacro : WideTree → Bool
is_xmacro (leaf t) = false
is_xmacro (node l ts) = bytes_eq l (codes "xmacro")

-- the body of an `xmacro`, without origins, where its one parameter has all arguments
abbrev pub applied_all : ℕ → Eval → List ℕ → List TaggedTree → Frame → Option (Name × WideTree) → Run WideValue
applied_all k below label kids f None = wrong k (codes "bad") label
applied_all k below label kids f (Some m) = below (record { tree = m.1; at = None }) (call_all m.0 kids f)

unfoldable pub called : ℕ → Eval → List ℕ → List TaggedTree → Frame → WideTree → Run WideValue
called k below label kids f m =
    if is_macro m then applied k below label kids f (macro_in (children_of m)) else
    if is_xmacro m then applied_all k below label kids f (xmacro_in (children_of m)) else
    wrong k (codes "not-macro") label

abbrev pub tag_found : ℕ → Eval → List ℕ → Option (List ℕ) → List TaggedTree → Frame → Option WideTree → Run WideValue
tag_found k below label at kids f None = rebuilt below f label kids at
tag_found k below label at kids f (Some m) = called k below label kids f m

unfoldable pub tag_run : ℕ → Eval → List ℕ → Option (List ℕ) → List TaggedTree → Frame → Run WideValue
tag_run k below label at kids f = look label >>= tag_found k below label at kids f

-- a name of the primitives, which isn't looked up, or any other tag
abbrev pub by_name : ℕ → Eval → List ℕ → Option (List ℕ) → List TaggedTree → Frame → Option Prim → Run WideValue
by_name k below label at kids f (Some which) = primitive k below f which kids
by_name k below label at kids f None = tag_run k below label at kids f

-- ---- the rows, a level, and evaluation

unfoldable pub row : Row → ℕ → Eval → EvalAll → TaggedTree → List ℕ → List TaggedTree → Frame → Run WideValue
row rows.Same k below below_all t label kids f = rebuilt below f label kids t.at
row rows.Refused k below below_all t label kids f = wrong k (codes "refused") label
row rows.RawData k below below_all t label kids f = give (made label none t.at)
row rows.DrdProps k below below_all t label kids f = give (text [] None)
row rows.Assign k below below_all t label kids f = assign k below f label t.at kids
row rows.With k below below_all t label kids f = with_row k below f label t.at kids
row rows.Value k below below_all t label kids f = unary_row unaries.Value k below f label kids
row rows.Provides k below below_all t label kids f = unary_row unaries.Provides k below f label kids
row rows.Eval k below below_all t label kids f = unary_row unaries.Eval k below f label kids
row rows.Macro k below below_all t label kids f = macro k label t kids
row rows.XMacro k below below_all t label kids f = xmacro k label t kids
row rows.Quote k below below_all t label kids f = quote k label kids
row rows.Arg k below below_all t label kids f = arg takings.Evaluated k below below_all f label kids
row rows.QuoteArg k below below_all t label kids f = arg takings.Quoted k below below_all f label kids
row rows.MapArgs k below below_all t label kids f = map_args k below f label kids
row rows.If k below below_all t label kids f = if_row k below f label kids
row rows.Case k below below_all t label kids f = case_row k below f label kids
row rows.While k below below_all t label kids f = while_row k below f label kids
row rows.Tag k below below_all t label kids f = by_name k below label t.at kids f (primitive_named label)

-- a text is itself
unfoldable pub leaf_run : ℕ → List ℕ → Option (List ℕ) → Run WideValue
leaf_run k x at = do
  need 1 k
  pay (1 + length x)
  give (text x at)

unfoldable pub node_run : ℕ → Eval → EvalAll → TaggedTree → List ℕ → List TaggedTree → Frame → Run WideValue
node_run k below below_all t label kids f = do
  need 1 k
  pay 1
  row (row_of label) k below below_all t label kids f

abbrev pub level : ℕ → Eval → EvalAll → TaggedTree → Frame → WideTree → Run WideValue
level k below below_all t f (leaf x) = leaf_run k x t.at
level k below below_all t f (node label kids) = node_run k below below_all t label (kids_from t.at 0 kids) f

-- the tuple of all arguments
unfoldable pub tuple_run : ℕ → Eval → List TaggedTree → Frame → Run WideValue
tuple_run k below ts f = do
  need 1 k
  pay 1
  rebuilt below f (codes "tuple") ts None

-- Evaluation with k levels.
unfoldable mutual
  pub ex : ℕ → Eval
  ex zero t f = over
  ex (suc k) t f = level (suc k) (ex k) (ex_all k) t f t.tree

  pub ex_all : ℕ → EvalAll
  ex_all zero ts f = over
  ex_all (suc k) ts f = tuple_run (suc k) (ex k) ts f
