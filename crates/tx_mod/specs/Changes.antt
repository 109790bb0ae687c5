-- What a modification makes of a tree, or the first cause why it makes nothing of it.
use Rattle.std.specs.Prelude.{◌≡◌, ℕ, ◌+◌, Bool, true, false, nat_le, List, [], ◌∷◌}
use Rattle.std.specs.Prelude.{◌++◌, length, take, drop, Result, Ok, Err, slice_get}
use Rattle.std.specs.Option.{option_map_or}
use Rattle.std.specs.Str.{bytes_eq}
use Rattle.tx_tree.specs.declared.TheConstants.{MOST_TEXT, MOST_ARITY, MOST_DEPTH, MOST_SIZE}
use Rattle.tx_tree.specs.Cuts.{is_cut}
use Rattle.tx_tree.specs.Paths.{subtree, leading}
use Rattle.tx_tree.specs.WideTree.{WideTree, leaf, node, forest, trees, size_of, depth_of, arity_of, text_length_of}
use Rattle.tx_mod.specs.declared.faults.ModFault.{ModFault}
use Rattle.tx_mod.specs.declared.faults.ModFault.TheVariants.{NoPath, NotString, NotNode, BadPlace, Differ}
use Rattle.tx_mod.specs.declared.faults.ModFault.TheVariants.{CutsSymbol, TooLong, TooWide, TooDeep, TooBig}
use Rattle.tx_mod.specs.declared.faults.ApplyFault.{ApplyFault}
use Rattle.tx_mod.specs.declared.faults.ApplyFault.TheVariants.{Refused, Memory}
use Rattle.tx_mod.specs.declared.mods.Mod.{Mod}
use Rattle.tx_mod.specs.declared.mods.Mod.TheVariants.{Assign, Insert, Remove, Split, Join}
use Rattle.tx_mod.specs.declared.mods.Mod.TheVariants.{AssignNode, InsertNode, RemoveNode}
use Rattle.tx_mod.specs.Mods.{path_of, tuple, put_in, taken_out, extent, is_clean, tree_up_to, tree_from, replaced}

-- a tree, or a cause
abbrev pub Outcome : Type 0
Outcome = Result WideTree ModFault

-- the outcome where the test holds, else the cause
abbrev pub asking : Bool → ModFault → Outcome → Outcome
asking true cause outcome = outcome
asking false cause outcome = Err cause

-- a leaf takes the text of a leaf, and a node the children of a tuple
abbrev pub inserted : WideTree → ℕ → WideTree → Outcome
inserted (leaf text) i (leaf more) =
    asking (nat_le i (length text)) (BadPlace (length text))
    (asking (is_cut text i) (CutsSymbol i) (Ok (leaf (put_in text i more))))
inserted (leaf text) i (node m us) = Err NotString
inserted (node l ts) i (leaf more) = Err NotNode
inserted (node l ts) i (node m us) =
    asking (bytes_eq m tuple) NotNode
    (asking (nat_le i (length (trees ts))) (BadPlace (length (trees ts)))
    (Ok (node l (forest (put_in (trees ts) i (trees us))))))

-- n bytes or children are taken out
abbrev pub removed : WideTree → ℕ → ℕ → Outcome
removed (leaf text) i n =
    asking (nat_le (i + n) (length text)) (BadPlace (length text))
    (asking (is_cut text i) (CutsSymbol i)
    (asking (is_cut text (i + n)) (CutsSymbol (i + n)) (Ok (leaf (taken_out text i n)))))
removed (node l ts) i n =
    asking (nat_le (i + n) (length (trees ts))) (BadPlace (length (trees ts)))
    (Ok (node l (forest (taken_out (trees ts) i n))))

-- child c becomes two
abbrev pub split_child : List ℕ → List WideTree → ℕ → ℕ → WideTree → Outcome
split_child l ts i j c =
    asking (nat_le j (extent c)) (BadPlace (extent c))
    (asking (is_clean c j) (CutsSymbol j)
    (Ok (node l (forest (take i ts ++ tree_up_to c j ∷ tree_from c j ∷ drop (i + 1) ts)))))

-- child i becomes two
abbrev pub split : WideTree → ℕ → ℕ → Outcome
split (leaf text) i j = Err NotNode
split (node l ts) i j =
    option_map_or (split_child l (trees ts) i j) (slice_get (trees ts) i) (Err (BadPlace (length (trees ts))))

-- two leaves, or two nodes of one label, become one
abbrev pub joined : WideTree → WideTree → Outcome
joined (leaf a) (leaf b) = Ok (leaf (a ++ b))
joined (leaf a) (node m us) = Err Differ
joined (node l ts) (leaf b) = Err Differ
joined (node l ts) (node m us) = asking (bytes_eq l m) Differ (Ok (node l (forest (trees ts ++ trees us))))

-- a node with a tree in place of its children i and i + 1
abbrev pub in_place_of_two : List ℕ → List WideTree → ℕ → Outcome → Outcome
in_place_of_two l ts i (Ok c) = Ok (node l (forest (take i ts ++ c ∷ drop (i + 2) ts)))
in_place_of_two l ts i (Err cause) = Err cause

-- children i and i + 1 become one
abbrev pub joined_at : WideTree → ℕ → Outcome
joined_at (leaf text) i = Err NotNode
joined_at (node l ts) i =
    option_map_or (λ a.
    option_map_or (λ b. in_place_of_two l (trees ts) i (joined a b))
    (slice_get (trees ts) (i + 1)) (Err (BadPlace (length (trees ts)))))
    (slice_get (trees ts) i) (Err (BadPlace (length (trees ts))))

-- the node has another label
abbrev pub labelled : WideTree → List ℕ → Outcome
labelled (leaf text) l = Err NotNode
labelled (node m ts) l = Ok (node l ts)

-- the tree becomes child i of a node
abbrev pub wrapped : WideTree → ℕ → WideTree → Outcome
wrapped s i (leaf text) = Err NotNode
wrapped s i (node l ts) =
    asking (nat_le i (length (trees ts))) (BadPlace (length (trees ts)))
    (Ok (node l (forest (put_in (trees ts) i (s ∷ [])))))

-- a node becomes its child i
abbrev pub unwrapped : WideTree → ℕ → Outcome
unwrapped (leaf text) i = Err NotNode
unwrapped (node l ts) i = option_map_or (λ c. Ok c) (slice_get (trees ts) i) (Err (BadPlace (length (trees ts))))

-- what the modification makes of the subtree s that its path leads to
abbrev pub changed_at : Mod → WideTree → Outcome
changed_at (Assign p x) s = Ok x
changed_at (Insert p i x) s = inserted s i x
changed_at (Remove p i n) s = removed s i n
changed_at (Split p i j) s = split s i j
changed_at (Join p i) s = joined_at s i
changed_at (AssignNode p l) s = labelled s l
changed_at (InsertNode p i x) s = wrapped s i x
changed_at (RemoveNode p i) s = unwrapped s i

-- the tree, unless it passes a limit
abbrev pub limited : WideTree → Outcome
limited u =
    asking (nat_le (text_length_of u) MOST_TEXT) (TooLong (text_length_of u))
    (asking (nat_le (arity_of u) MOST_ARITY) (TooWide (arity_of u))
    (asking (nat_le (depth_of u) MOST_DEPTH) (TooDeep (depth_of u))
    (asking (nat_le (size_of u) MOST_SIZE) (TooBig (size_of u)) (Ok u))))

-- t with the outcome where the path leads
abbrev pub put_back : WideTree → List ℕ → Outcome → Outcome
put_back t p (Ok u) = limited (replaced t p u)
put_back t p (Err cause) = Err cause

-- what the modification makes of the tree t
abbrev pub changed : Mod → WideTree → Outcome
changed m t =
    option_map_or (λ s. put_back t (path_of m) (changed_at m s)) (subtree t (path_of m))
    (Err (NoPath (leading t (path_of m))))

-- the cause is that of the outcome, or `Memory`
abbrev pub IsRefusal : Outcome → ApplyFault → Type 0
IsRefusal outcome (Refused cause) = outcome ≡ Err cause
IsRefusal outcome Memory = Unit {0}
