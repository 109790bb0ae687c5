-- A modification that is taken past another.
use Rattle.std.specs.Prelude.{◌≡◌, ℕ, ◌+◌, ◌-◌, nat_le, if◌then◌else◌, List, Option, Some, None, option_and_then}
use Rattle.std.specs.Prelude.{option_map}
use Rattle.tx_tree.specs.Paths.{subtree}
use Rattle.std.specs.Str.{bytes_eq}
use Rattle.tx_tree.specs.WideTree.{WideTree}
use Rattle.tx_mod.specs.declared.mods.Mod.{Mod}
use Rattle.tx_mod.specs.declared.mods.Mod.TheVariants.{Assign, Insert, Remove, Split, Join}
use Rattle.tx_mod.specs.declared.mods.Mod.TheVariants.{AssignNode, InsertNode, RemoveNode}
use Rattle.tx_mod.specs.Mods.{path_of, extent}
use Rattle.tx_mod.specs.Inverses.{inverse_of}
use Rattle.tx_mod.specs.Moves.{carried_path}
use Rattle.tx_mod.specs.Sound.{IsSoundMod}
use Rattle.tx_commute.specs.Free.{freely}

-- the modification at another path
abbrev pub at_path : Mod → List ℕ → Mod
at_path (Assign p x) q = Assign q x
at_path (Insert p i x) q = Insert q i x
at_path (Remove p i n) q = Remove q i n
at_path (Split p i j) q = Split q i j
at_path (Join p i) q = Join q i
at_path (AssignNode p l) q = AssignNode q l
at_path (InsertNode p i x) q = InsertNode q i x
at_path (RemoveNode p i) q = RemoveNode q i

-- what is left of two modifications: the later one, then the earlier one
abbrev pub Pair : Type 0
Pair = Mod × Mod

-- the first that is there
abbrev pub or_else : {X : Type 0} → Option X → Option X → Option X
or_else None other = other
or_else (Some pair) other = Some pair

-- an insertion and what comes later at the same path
abbrev pub insert_past : List ℕ → ℕ → WideTree → Mod → Option Pair
insert_past p i x (Assign q y) = None
insert_past p i x (Insert q j y) =
    if nat_le j i then Some (Insert q j y, Insert p (i + extent y) x)
    else (if nat_le (i + extent x) j then Some (Insert q (j - extent x) y, Insert p i x) else None)
insert_past p i x (Remove q j m) =
    if nat_le (j + m) i then Some (Remove q j m, Insert p (i - m) x)
    else (if nat_le (i + extent x) j then Some (Remove q (j - extent x) m, Insert p i x) else None)
insert_past p i x (Split q j k) = None
insert_past p i x (Join q j) = None
insert_past p i x (AssignNode q l) = None
insert_past p i x (InsertNode q j y) = None
insert_past p i x (RemoveNode q j) = None

-- a removal and what comes later at the same path
abbrev pub remove_past : List ℕ → ℕ → ℕ → Mod → Option Pair
remove_past p i n (Assign q y) = None
remove_past p i n (Insert q j y) =
    if nat_le j i then Some (Insert q j y, Remove p (i + extent y) n) else Some (Insert q (j + n) y, Remove p i n)
remove_past p i n (Remove q j m) =
    if nat_le (j + m) i then Some (Remove q j m, Remove p (i - m) n)
    else (if nat_le i j then Some (Remove q (j + n) m, Remove p i n) else None)
remove_past p i n (Split q j k) = None
remove_past p i n (Join q j) = None
remove_past p i n (AssignNode q l) = None
remove_past p i n (InsertNode q j y) = None
remove_past p i n (RemoveNode q j) = None

-- the table of two modifications at the same path
abbrev pub by_table : Mod → Mod → Option Pair
by_table (Assign p x) b = None
by_table (Insert p i x) b = insert_past p i x b
by_table (Remove p i n) b = remove_past p i n b
by_table (Split p i j) b = None
by_table (Join p i) b = None
by_table (AssignNode p l) b = None
by_table (InsertNode p i x) b = None
by_table (RemoveNode p i) b = None

-- what is left of a, which makes u of t, and of b, which applies to u: by the first case that holds, the path of a
-- carried through b, the path of b carried back through a, and the table
abbrev pub past_from : WideTree → WideTree → Mod → Mod → Option Pair
past_from t u a b =
    or_else (option_map (λ p. (b, at_path a p)) (carried_path b u (path_of a)))
    (or_else (option_map (λ q. (at_path b q, a)) (carried_path (inverse_of a t) u (path_of b)))
    (if bytes_eq (path_of a) (path_of b) then by_table a b else None))

abbrev pub past : WideTree → Mod → Mod → Option Pair
past t a b = option_and_then (λ u. past_from t u a b) (freely a t)

-- b' applies to t, and a' to what it makes, which gives v
pub record MakeTogether (t : WideTree) (b' a' : Mod) (v : WideTree) : Type 0 where
  pub middle : WideTree
  pub first : freely b' t ≡ Some middle
  pub second : freely a' middle ≡ Some v

-- where there is a pair, both orders make the same tree, limits aside
abbrev pub BothOrdersAgree : Type 0
BothOrdersAgree =
    (t u v : WideTree) (a b b' a' : Mod) → IsSoundMod a → IsSoundMod b → freely a t ≡ Some u → freely b u ≡ Some v
    → past t a b ≡ Some (b', a') → MakeTogether t b' a' v

-- where m carries the path q of t to r, its inverse carries r back to q
abbrev pub CarriedBack : Type 0
CarriedBack =
    (m : Mod) (t u z : WideTree) (q r : List ℕ) → freely m t ≡ Some u → subtree t q ≡ Some z
    → carried_path m t q ≡ Some r → carried_path (inverse_of m t) u r ≡ Some q

-- Where the inverse carries the path q of the changed tree to r, r leads to the same subtree of t, and m carries r to
-- q.
abbrev pub CarriedFrom : Type 0
CarriedFrom =
    (m : Mod) (t u z : WideTree) (q r : List ℕ) → freely m t ≡ Some u → subtree u q ≡ Some z
    → carried_path (inverse_of m t) u q ≡ Some r → (subtree t r ≡ Some z) × (carried_path m t r ≡ Some q)
