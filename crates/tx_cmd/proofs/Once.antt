-- A line is one command, or has one cause.
use Rattle.std.proofs.Common.{◌≡◌, ◌≢◌, ℕ, ◌+◌, true, false, List, [], ◌∷◌, ◌++◌, length, ◌⊎◌, ⊎_elim, refl, sym, ap}
use Rattle.std.proofs.Common.{subst, ◌∙◌, arith}
use Rattle.std.proofs.lemmas.List.{append_cancel_left}
use Rattle.tx_tree.specs.Labels.{IsLabel}
use Rattle.tx_tree.specs.PathSpelling.{IsPathSpelling, IsPathFault}
use Rattle.tx_tree.specs.declared.faults.PathFault.TheVariants.{BadPath}
use Rattle.tx_tree.specs.declared.faults.ReadFault.{ReadFault}
use Rattle.tx_tree.specs.WideTree.{WideTree, leaf, is_leaf}
use Rattle.tx_tree.specs.Limits.{IsWithinLimits}
use Rattle.tx_scm.specs.Spelling.{Spells}
use Rattle.tx_scm.specs.Faults.{IsSchemeFault}
use Rattle.tx_scm.proofs.OneFault.{once, none}
use Rattle.tx_cmd.specs.Moved.{moved_fault}
use Rattle.tx_tree.proofs.PathsOnce.{spelled_once as path_once}
use Rattle.tx_scm.proofs.Complete.{spelled_once as tree_once}
use Rattle.tx_mod.specs.declared.mods.Mod.{Mod}
use Rattle.tx_mod.specs.declared.mods.Mod.TheVariants.{Assign, Insert, Remove, Split, Join, AssignNode, InsertNode}
use Rattle.tx_mod.specs.declared.mods.Mod.TheVariants.{RemoveNode}
use Rattle.tx_mod.specs.Mods.{path_of}
use Rattle.tx_cmd.specs.declared.command.Command.{Command}
use Rattle.tx_cmd.specs.declared.command.Command.TheVariants.{Change, Undo, Redo, At, Go, Click, Left, Right, Typed}
use Rattle.tx_cmd.specs.declared.command.Command.TheVariants.{UndoAt}
use Rattle.tx_cmd.specs.declared.command.Command.TheVariants.{Backspace, Enter, Show, Page, Errors, PlaceOf, Cursor}
use Rattle.tx_cmd.specs.declared.command.Command.TheVariants.{Attrs, Work, Tree, Save, Quit}
use Rattle.tx_cmd.specs.declared.command.CmdFault.{CmdFault}
use Rattle.tx_cmd.specs.declared.command.CmdFault.TheVariants.{Long, Unknown, Args, Path, Tree as TreeFault, Memory}
use Rattle.tx_cmd.specs.declared.words.ModWord.{ModWord}
use Rattle.tx_cmd.specs.declared.words.ModWord.TheVariants.{Assign as AssignWord, Insert as InsertWord}
use Rattle.tx_cmd.specs.declared.words.ModWord.TheVariants.{Remove as RemoveWord, Split as SplitWord, Join as JoinWord}
use Rattle.tx_cmd.specs.declared.words.ModWord.TheVariants.{AssignNode as AssignNodeWord, InsertNode as InsertNodeWord}
use Rattle.tx_cmd.specs.declared.words.ModWord.TheVariants.{RemoveNode as RemoveNodeWord}
use Rattle.tx_cmd.specs.declared.words.Word.{Word}
use Rattle.tx_cmd.specs.declared.words.Word.TheVariants.{Change as ChangeWord, Undo as UndoWord, Redo as RedoWord}
use Rattle.tx_cmd.specs.declared.words.Word.TheVariants.{UndoAt as UndoAtWord}
use Rattle.tx_cmd.specs.declared.words.Word.TheVariants.{At as AtWord, Go as GoWord, Click as ClickWord}
use Rattle.tx_cmd.specs.declared.words.Word.TheVariants.{Left as LeftWord, Right as RightWord, Typed as TypedWord}
use Rattle.tx_cmd.specs.declared.words.Word.TheVariants.{Backspace as BackspaceWord, Enter as EnterWord}
use Rattle.tx_cmd.specs.declared.words.Word.TheVariants.{Show as ShowWord, Page as PageWord, Errors as ErrorsWord}
use Rattle.tx_cmd.specs.declared.words.Word.TheVariants.{Where as WhereWord, Cursor as CursorWord, Attrs as AttrsWord}
use Rattle.tx_cmd.specs.declared.words.Word.TheVariants.{Work as WorkWord, Tree as TreeWord, Save as SaveWord}
use Rattle.tx_cmd.specs.declared.words.ArgumentKind.{ArgumentKind}
use Rattle.tx_cmd.specs.declared.words.ArgumentKind.TheVariants.{Path as PathArgument, Number as NumberArgument}
use Rattle.tx_cmd.specs.declared.words.ArgumentKind.TheVariants.{Label as LabelArgument, Name as NameArgument}
use Rattle.tx_cmd.specs.declared.words.ArgumentKind.TheVariants.{Tree as TreeArgument, Text as TextArgument}
use Rattle.tx_cmd.specs.Words.{word_text, arguments_of, arguments_behind, up_to_space, IsFileName, IsKnown}
use Rattle.tx_cmd.specs.Words.{IsLoosePiece, AreLoose, IsLoose}
use Rattle.tx_cmd.specs.Values.{Value, a_path, a_number, a_label, a_name, a_tree, a_text, argument_kind, Means, Mean}
use Rattle.tx_cmd.specs.Values.{HasMeaning}
use Rattle.tx_cmd.specs.Commands.{mod_word, values_behind, command_word, values_of, IsCommand}
use Rattle.tx_cmd.specs.Pieces.{IsTail, tree_is_last}
use Rattle.tx_cmd.specs.Refusals.{IsBadPath, IsBadTree, SpellsNode, IsBadPiece, IsFirstFault, HasNoForm}
use Rattle.tx_cmd.specs.Refusals.{IsRefused, IsCmdFault}
use Rattle.tx_base.proofs.Fronts.{one_front}
use Rattle.tx_cmd.proofs.Splits.{word_is}
use Rattle.tx_cmd.proofs.Numerals.{path_no_space}
use Rattle.tx_cmd.proofs.WordTexts.{one_word, word_no_space, arguments_in_order}
use Rattle.tx_cmd.proofs.LooseFronts.{loose_tail, loose_ends, one_cut, last_of}

-- ---- values

abbrev kinds : List Value → List ArgumentKind
kinds [] = []
kinds (v ∷ values) = argument_kind v ∷ kinds values

one_text : (piece x y : List ℕ) → Spells piece (leaf x) → Spells piece (leaf y) → x ≡ y
one_text piece x y h k = let same : leaf x ≡ leaf y = tree_once piece (leaf x) (leaf y) h k in cc

one_value : (piece : List ℕ) (v u : Value) → argument_kind v ≡ argument_kind u → Means piece v → Means piece u → v ≡ u
one_value piece (a_path p) (a_path q) e h k = ap (λ x. a_path x) (path_once piece p q h k)
one_value piece (a_path p) (a_number n) e h k = absurd cc
one_value piece (a_path p) (a_label l) e h k = absurd cc
one_value piece (a_path p) (a_name n) e h k = absurd cc
one_value piece (a_path p) (a_tree t) e h k = absurd cc
one_value piece (a_path p) (a_text x) e h k = absurd cc
one_value piece (a_number n) (a_path p) e h k = absurd cc
one_value piece (a_number n) (a_number m) e h k = ap (λ x. a_number x) (h.value ∙ sym k.value)
one_value piece (a_number n) (a_label l) e h k = absurd cc
one_value piece (a_number n) (a_name m) e h k = absurd cc
one_value piece (a_number n) (a_tree t) e h k = absurd cc
one_value piece (a_number n) (a_text x) e h k = absurd cc
one_value piece (a_label l) (a_path p) e h k = absurd cc
one_value piece (a_label l) (a_number n) e h k = absurd cc
one_value piece (a_label l) (a_label m) e h k = ap (λ x. a_label x) (sym h.1 ∙ k.1)
one_value piece (a_label l) (a_name n) e h k = absurd cc
one_value piece (a_label l) (a_tree t) e h k = absurd cc
one_value piece (a_label l) (a_text x) e h k = absurd cc
one_value piece (a_name n) (a_path p) e h k = absurd cc
one_value piece (a_name n) (a_number m) e h k = absurd cc
one_value piece (a_name n) (a_label l) e h k = absurd cc
one_value piece (a_name n) (a_name m) e h k = ap (λ x. a_name x) (sym h.1 ∙ k.1)
one_value piece (a_name n) (a_tree t) e h k = absurd cc
one_value piece (a_name n) (a_text x) e h k = absurd cc
one_value piece (a_tree t) (a_path p) e h k = absurd cc
one_value piece (a_tree t) (a_number n) e h k = absurd cc
one_value piece (a_tree t) (a_label l) e h k = absurd cc
one_value piece (a_tree t) (a_name n) e h k = absurd cc
one_value piece (a_tree t) (a_tree u) e h k = ap (λ x. a_tree x) (tree_once piece t u h.0 k.0)
one_value piece (a_tree t) (a_text x) e h k = absurd cc
one_value piece (a_text x) (a_path p) e h k = absurd cc
one_value piece (a_text x) (a_number n) e h k = absurd cc
one_value piece (a_text x) (a_label l) e h k = absurd cc
one_value piece (a_text x) (a_name n) e h k = absurd cc
one_value piece (a_text x) (a_tree t) e h k = absurd cc
one_value piece (a_text x) (a_text y) e h k = ap (λ z. a_text z) (one_text piece x y h.0 k.0)

-- what means something may stand for it
means_loose : (piece : List ℕ) (v : Value) → Means piece v → IsLoosePiece (argument_kind v) piece
means_loose piece (a_path p) h = path_no_space p piece h
means_loose piece (a_number n) h = (n, h)
means_loose piece (a_label l) h = subst IsLabel (sym h.1) h.0
means_loose piece (a_name n) h = subst IsFileName (sym h.1) h.0
means_loose piece (a_tree t) h = tt
means_loose piece (a_text x) h = tt

mean_loose : (values : List Value) (bytes : List ℕ) → Mean bytes values → AreLoose (kinds values) bytes
mean_loose [] bytes h = h
mean_loose (v ∷ values) bytes h = (h.0, h.1, means_loose h.0 v h.2, mean_loose values h.1 h.3, h.4)

one_values : (vs us : List Value) (x : List ℕ) → kinds vs ≡ kinds us → tree_is_last (kinds vs) ≡ true → Mean x vs
    → Mean x us → vs ≡ us
one_values [] [] x e o h k = refl
one_values [] (u ∷ us) x e o h k = absurd cc
one_values (v ∷ vs) [] x e o h k = absurd cc
one_values (v ∷ vs) (u ∷ us) x e o h k =
    let same : argument_kind v ≡ argument_kind u = cc in
    let others : kinds vs ≡ kinds us = cc in
    let there : AreLoose (kinds vs) k.1 = subst (λ x. AreLoose x k.1) (sym others) (mean_loose us k.1 k.3) in
    let piece : IsLoosePiece (argument_kind v) k.0 = subst (λ x. IsLoosePiece x k.0) (sym same)
    (means_loose k.0 u k.2) in
    let w = one_cut (argument_kind v) h.0 k.0 h.1 k.1 (sym h.4 ∙ k.4)
    (loose_ends (argument_kind v) (kinds vs) h.0 h.1 o (means_loose h.0 v h.2) (mean_loose vs h.1 h.3))
    (loose_ends (argument_kind v) (kinds vs) k.0 k.1 o piece there) in
    let first : v ≡ u = one_value k.0 v u same (subst (λ x. Means x v) w.0 h.2) k.2 in
    let rest : vs ≡ us = one_values vs us k.1 others (last_of (argument_kind v) (kinds vs) o)
    (subst (λ x. Mean x vs) w.1 h.3) k.3 in
    rw (first, rest) refl

-- ---- commands

mod_kinds : (m : Mod) → kinds (values_behind m) ≡ arguments_behind (mod_word m)
mod_kinds (Assign p t) = refl
mod_kinds (Insert p i t) = refl
mod_kinds (Remove p i n) = refl
mod_kinds (Split p i j) = refl
mod_kinds (Join p i) = refl
mod_kinds (AssignNode p l) = refl
mod_kinds (InsertNode p i t) = refl
mod_kinds (RemoveNode p i) = refl

command_kinds : (c : Command) → kinds (values_of c) ≡ arguments_of (command_word c)
command_kinds (Change m) = ap (λ x. PathArgument ∷ x) (mod_kinds m)
command_kinds Undo = refl
command_kinds (UndoAt n) = refl
command_kinds Redo = refl
command_kinds (At n) = refl
command_kinds (Go p) = refl
command_kinds (Click r k) = refl
command_kinds Left = refl
command_kinds Right = refl
command_kinds (Typed x) = refl
command_kinds Backspace = refl
command_kinds Enter = refl
command_kinds Show = refl
command_kinds (Page n) = refl
command_kinds Errors = refl
command_kinds (PlaceOf r k) = refl
command_kinds Cursor = refl
command_kinds (Attrs r) = refl
command_kinds Work = refl
command_kinds Tree = refl
command_kinds (Save n) = refl
command_kinds Quit = refl

-- the command of a word and values, or quit where there is none
abbrev mod_made : ModWord → List ℕ → List Value → Command
mod_made AssignWord p (a_tree t ∷ []) = Change (Assign p t)
mod_made InsertWord p (a_number i ∷ a_tree t ∷ []) = Change (Insert p i t)
mod_made RemoveWord p (a_number i ∷ a_number n ∷ []) = Change (Remove p i n)
mod_made SplitWord p (a_number i ∷ a_number j ∷ []) = Change (Split p i j)
mod_made JoinWord p (a_number i ∷ []) = Change (Join p i)
mod_made AssignNodeWord p (a_label l ∷ []) = Change (AssignNode p l)
mod_made InsertNodeWord p (a_number i ∷ a_tree t ∷ []) = Change (InsertNode p i t)
mod_made RemoveNodeWord p (a_number i ∷ []) = Change (RemoveNode p i)
mod_made word p values = Quit

abbrev made : Word → List Value → Command
made (ChangeWord word) (a_path p ∷ values) = mod_made word p values
made AtWord (a_name n ∷ []) = At n
made GoWord (a_path p ∷ []) = Go p
made ClickWord (a_number r ∷ a_number k ∷ []) = Click r k
made TypedWord (a_text x ∷ []) = Typed x
made PageWord (a_number n ∷ []) = Page n
made WhereWord (a_number r ∷ a_number k ∷ []) = PlaceOf r k
made AttrsWord (a_number r ∷ []) = Attrs r
made SaveWord (a_name n ∷ []) = Save n
made UndoWord [] = Undo
made UndoAtWord (a_number n ∷ []) = UndoAt n
made RedoWord [] = Redo
made LeftWord [] = Left
made RightWord [] = Right
made BackspaceWord [] = Backspace
made EnterWord [] = Enter
made ShowWord [] = Show
made ErrorsWord [] = Errors
made CursorWord [] = Cursor
made WorkWord [] = Work
made TreeWord [] = Tree
made _ values = Quit

mod_made_again : (m : Mod) → mod_made (mod_word m) (path_of m) (values_behind m) ≡ Change m
mod_made_again (Assign p t) = refl
mod_made_again (Insert p i t) = refl
mod_made_again (Remove p i n) = refl
mod_made_again (Split p i j) = refl
mod_made_again (Join p i) = refl
mod_made_again (AssignNode p l) = refl
mod_made_again (InsertNode p i t) = refl
mod_made_again (RemoveNode p i) = refl

made_again : (c : Command) → made (command_word c) (values_of c) ≡ c
made_again (Change m) = mod_made_again m
made_again Undo = refl
made_again (UndoAt n) = refl
made_again Redo = refl
made_again (At n) = refl
made_again (Go p) = refl
made_again (Click r k) = refl
made_again Left = refl
made_again Right = refl
made_again (Typed x) = refl
made_again Backspace = refl
made_again Enter = refl
made_again Show = refl
made_again (Page n) = refl
made_again Errors = refl
made_again (PlaceOf r k) = refl
made_again Cursor = refl
made_again (Attrs r) = refl
made_again Work = refl
made_again Tree = refl
made_again (Save n) = refl
made_again Quit = refl

-- the word of a line, and what is after it, are the same however it is read
same_word : (w v : Word) (r s line : List ℕ) → line ≡ word_text w ++ r → line ≡ word_text v ++ s → IsTail r → IsTail s
    → (w ≡ v) × (r ≡ s)
same_word w v r s line e f hr hs =
    let same : w ≡ v = one_word w v
    (sym (word_is (word_text w) r line e (word_no_space w) hr) ∙ word_is (word_text v) s line f (word_no_space v) hs) in
    (same, append_cancel_left (word_text v) r s (ap (λ x. word_text x ++ r) (sym same) ∙ sym e ∙ f))

command_in_order : (c : Command) → tree_is_last (kinds (values_of c)) ≡ true
command_in_order c = subst (λ x. tree_is_last x ≡ true) (sym (command_kinds c)) (arguments_in_order (command_word c))

mean_tail : (values : List Value) (bytes : List ℕ) → Mean bytes values → IsTail bytes
mean_tail values bytes h = loose_tail (kinds values) bytes (mean_loose values bytes h)

pub one_command : (line : List ℕ) (c d : Command) → IsCommand line c → IsCommand line d → c ≡ d
one_command line c d h k =
    let r = h.1.0 in
    let s = k.1.0 in
    let w = same_word (command_word c) (command_word d) r s line h.1.2 k.1.2 (mean_tail (values_of c) r h.1.1)
    (mean_tail (values_of d) s k.1.1) in
    let same_kinds : kinds (values_of c) ≡ kinds (values_of d) = command_kinds c ∙ ap arguments_of w.0
    ∙ sym (command_kinds d) in
    let values : values_of c ≡ values_of d = one_values (values_of c) (values_of d) s same_kinds (command_in_order c)
    (subst (λ x. Mean x (values_of c)) w.1 h.1.1) k.1.1 in
    sym (made_again c) ∙ ap (λ x. made x (values_of c)) w.0 ∙ ap (made (command_word d)) values ∙ made_again d

-- ---- causes

bad_path_is : (piece : List ℕ) (at : ℕ) (f : CmdFault) → IsBadPath piece at f
    → (m : ℕ) × IsPathFault piece (BadPath m) × (f ≡ Path (at + m))
bad_path_is piece at (Path n) h = (h.0, h.1, ap (λ x. Path x) h.2)
bad_path_is piece at (Long n) h = absurd h
bad_path_is piece at Unknown h = absurd h
bad_path_is piece at (Args n) h = absurd h
bad_path_is piece at (TreeFault fault) h = absurd h
bad_path_is piece at Memory h = absurd h

bad_tree_is : (piece : List ℕ) (at : ℕ) (f : CmdFault) → IsBadTree piece at f
    → (there : ReadFault) × IsSchemeFault piece there × (f ≡ TreeFault (moved_fault at there))
bad_tree_is piece at (TreeFault fault) h = (h.0, h.1, ap (λ x. TreeFault x) h.2)
bad_tree_is piece at (Long n) h = absurd h
bad_tree_is piece at Unknown h = absurd h
bad_tree_is piece at (Args n) h = absurd h
bad_tree_is piece at (Path n) h = absurd h
bad_tree_is piece at Memory h = absurd h

no_tree_fault : (piece : List ℕ) (at : ℕ) (f : CmdFault) (t : WideTree) → IsBadTree piece at f → Spells piece t
    → IsWithinLimits t → ⊥
no_tree_fault piece at f t h spelled within = let x = bad_tree_is piece at f h in none piece x.0 t x.1 spelled within

-- bytes that spell a node spell no text
no_node : (piece x : List ℕ) → SpellsNode piece → Spells piece (leaf x) → ⊥
no_node piece x h spelled =
    let same : h.0 ≡ leaf x = tree_once piece h.0 (leaf x) h.1 spelled in
    let at_leaf = subst (λ t. is_leaf t ≡ false) same h.3 in
    absurd cc

one_bad_tree : (piece : List ℕ) (at : ℕ) (f g : CmdFault) → IsBadTree piece at f → IsBadTree piece at g → f ≡ g
one_bad_tree piece at f g h k =
    let x = bad_tree_is piece at f h in
    let y = bad_tree_is piece at g k in
    x.2 ∙ ap (λ there. TreeFault (moved_fault at there)) (once piece x.0 y.0 x.1 y.1) ∙ sym y.2

one_bad : (a : ArgumentKind) (piece : List ℕ) (at : ℕ) (f g : CmdFault) → IsBadPiece a piece at f
    → IsBadPiece a piece at g → f ≡ g
one_bad PathArgument piece at f g h k =
    let x = bad_path_is piece at f h in
    let y = bad_path_is piece at g k in
    x.2 ∙ ap (λ n. Path (at + n)) (one_front IsPathSpelling piece x.0 y.0 x.1.0 y.1.0) ∙ sym y.2
one_bad TreeArgument piece at f g h k = one_bad_tree piece at f g h k
one_bad TextArgument piece at f g h k =
    ⊎_elim
    (λ (x : IsBadTree piece at f).
    ⊎_elim
    (λ (y : IsBadTree piece at g). one_bad_tree piece at f g x y)
    (λ (y : SpellsNode piece × (g ≡ Args at)). absurd (no_tree_fault piece at f y.0.0 x y.0.1 y.0.2))
    k)
    (λ (x : SpellsNode piece × (f ≡ Args at)).
    ⊎_elim
    (λ (y : IsBadTree piece at g). absurd (no_tree_fault piece at g x.0.0 y x.0.1 x.0.2))
    (λ (y : SpellsNode piece × (g ≡ Args at)). x.1 ∙ sym y.1)
    k)
    h
one_bad NumberArgument piece at f g h k = absurd h
one_bad LabelArgument piece at f g h k = absurd h
one_bad NameArgument piece at f g h k = absurd h

bad_means_none : (a : ArgumentKind) (piece : List ℕ) (at : ℕ) (f : CmdFault) (v : Value) → argument_kind v ≡ a
    → IsBadPiece a piece at f → Means piece v → ⊥
bad_means_none PathArgument piece at f (a_path p) e h k = (bad_path_is piece at f h).1.1 (p, k)
bad_means_none PathArgument piece at f (a_number n) e h k = absurd cc
bad_means_none PathArgument piece at f (a_label l) e h k = absurd cc
bad_means_none PathArgument piece at f (a_name n) e h k = absurd cc
bad_means_none PathArgument piece at f (a_tree t) e h k = absurd cc
bad_means_none PathArgument piece at f (a_text x) e h k = absurd cc
bad_means_none TreeArgument piece at f (a_path p) e h k = absurd cc
bad_means_none TreeArgument piece at f (a_number n) e h k = absurd cc
bad_means_none TreeArgument piece at f (a_label l) e h k = absurd cc
bad_means_none TreeArgument piece at f (a_name n) e h k = absurd cc
bad_means_none TreeArgument piece at f (a_tree t) e h k = no_tree_fault piece at f t h k.0 k.1
bad_means_none TreeArgument piece at f (a_text x) e h k = absurd cc
bad_means_none TextArgument piece at f (a_path p) e h k = absurd cc
bad_means_none TextArgument piece at f (a_number n) e h k = absurd cc
bad_means_none TextArgument piece at f (a_label l) e h k = absurd cc
bad_means_none TextArgument piece at f (a_name n) e h k = absurd cc
bad_means_none TextArgument piece at f (a_tree t) e h k = absurd cc
bad_means_none TextArgument piece at f (a_text x) e h k =
    ⊎_elim
    (λ (y : IsBadTree piece at f). no_tree_fault piece at f (leaf x) y k.0 k.1)
    (λ (y : SpellsNode piece × (f ≡ Args at)). no_node piece x y.0 k.0)
    h
bad_means_none NumberArgument piece at f v e h k = h
bad_means_none LabelArgument piece at f v e h k = h
bad_means_none NameArgument piece at f v e h k = h

first_loose : (arguments : List ArgumentKind) (bytes : List ℕ) (at : ℕ) (f : CmdFault)
    → IsFirstFault arguments bytes at f → AreLoose arguments bytes
first_loose [] bytes at f h = absurd h
first_loose (a ∷ more) bytes at f h = (h.0, h.1, h.3, h.4, h.2)

-- the piece is bad, or it is good and one after it is bad
abbrev HasFault : ArgumentKind → List ArgumentKind → ℕ → CmdFault → List ℕ → List ℕ → Type 0
HasFault a more at f piece rest =
    IsBadPiece a piece (at + 1) f ⊎ (HasMeaning a piece × IsFirstFault more rest (at + 1 + length piece) f)

one_first : (arguments : List ArgumentKind) (bytes : List ℕ) (at : ℕ) (f g : CmdFault) → tree_is_last arguments ≡ true
    → IsFirstFault arguments bytes at f → IsFirstFault arguments bytes at g → f ≡ g
one_first [] bytes at f g o h k = absurd h
one_first (a ∷ more) bytes at f g o h k =
    let w = one_cut a h.0 k.0 h.1 k.1 (sym h.2 ∙ k.2) (loose_ends a more h.0 h.1 o h.3 h.4)
    (loose_ends a more k.0 k.1 o k.3 k.4) in
    let first : HasFault a more at f k.0 k.1 = subst (λ x. HasFault a more at f x k.1) w.0
    (subst (HasFault a more at f h.0) w.1 h.5) in
    ⊎_elim
    (λ (x : IsBadPiece a k.0 (at + 1) f).
    ⊎_elim
    (λ (y : IsBadPiece a k.0 (at + 1) g). one_bad a k.0 (at + 1) f g x y)
    (λ (y : HasMeaning a k.0 × IsFirstFault more k.1 (at + 1 + length k.0) g). absurd
    (bad_means_none a k.0 (at + 1) f y.0.0 y.0.1 x y.0.2))
    k.5)
    (λ (x : HasMeaning a k.0 × IsFirstFault more k.1 (at + 1 + length k.0) f).
    ⊎_elim
    (λ (y : IsBadPiece a k.0 (at + 1) g). absurd (bad_means_none a k.0 (at + 1) g x.0.0 x.0.1 y x.0.2))
    (λ (y : HasMeaning a k.0 × IsFirstFault more k.1 (at + 1 + length k.0) g). one_first more k.1
    (at + 1 + length k.0) f g (last_of a more o) x.1 y.1)
    k.5)
    first

all_good : (values : List Value) (bytes : List ℕ) (at : ℕ) (f : CmdFault) → tree_is_last (kinds values) ≡ true
    → Mean bytes values → IsFirstFault (kinds values) bytes at f → ⊥
all_good [] bytes at f o h k = k
all_good (v ∷ values) bytes at f o h k =
    let w = one_cut (argument_kind v) h.0 k.0 h.1 k.1 (sym h.4 ∙ k.2)
    (loose_ends (argument_kind v) (kinds values) h.0 h.1 o (means_loose h.0 v h.2) (mean_loose values h.1 h.3))
    (loose_ends (argument_kind v) (kinds values) k.0 k.1 o k.3 k.4) in
    ⊎_elim
    (λ (y : IsBadPiece (argument_kind v) k.0 (at + 1) f). bad_means_none (argument_kind v) k.0 (at + 1) f v refl y
    (subst (λ x. Means x v) w.0 h.2))
    (λ (y : HasMeaning (argument_kind v) k.0 × IsFirstFault (kinds values) k.1 (at + 1 + length k.0) f).
    all_good values k.1 (at + 1 + length k.0) f (last_of (argument_kind v) (kinds values) o)
    (subst (λ x. Mean x values) w.1 h.3) y.1)
    k.5

-- a refused line has the form of a command
refused_loose : (line : List ℕ) (f : CmdFault) → IsRefused line f
    → IsKnown (up_to_space line) × IsLoose (up_to_space line) line
refused_loose line f h =
    let loose = first_loose (arguments_of h.0) h.1 _ f h.3 in
    let is : up_to_space line ≡ word_text h.0 = word_is (word_text h.0) h.1 line h.2 (word_no_space h.0)
    (loose_tail (arguments_of h.0) h.1 loose) in
    ((h.0, is), (h.0, h.1, is, loose, h.2 ∙ ap (λ x. x ++ h.1) (sym is)))

-- a command has the form of a command
command_loose : (line : List ℕ) (c : Command) → IsCommand line c
    → IsKnown (up_to_space line) × IsLoose (up_to_space line) line
command_loose line c h =
    let w = command_word c in
    let rest = h.1.0 in
    let loose : AreLoose (arguments_of w) rest = subst (λ x. AreLoose x rest) (command_kinds c)
    (mean_loose (values_of c) rest h.1.1) in
    let is : up_to_space line ≡ word_text w = word_is (word_text w) rest line h.1.2 (word_no_space w)
    (loose_tail (arguments_of w) rest loose) in
    ((w, is), (w, rest, is, loose, h.1.2 ∙ ap (λ x. x ++ rest) (sym is)))

one_refused : (line : List ℕ) (f g : CmdFault) → IsRefused line f → IsRefused line g → f ≡ g
one_refused line f g h k =
    let w = same_word h.0 k.0 h.1 k.1 line h.2 k.2 (loose_tail _ h.1 (first_loose (arguments_of h.0) h.1 _ f h.3))
    (loose_tail _ k.1 (first_loose (arguments_of k.0) k.1 _ g k.3)) in
    let first : IsFirstFault (arguments_of k.0) k.1 (length (word_text k.0)) f =
    subst (λ x. IsFirstFault (arguments_of x) k.1 (length (word_text x)) f) w.0
    (subst (λ x. IsFirstFault (arguments_of h.0) x (length (word_text h.0)) f) w.1 h.3) in
    one_first (arguments_of k.0) k.1 (length (word_text k.0)) f g (arguments_in_order k.0) first k.3

pub not_refused : (line : List ℕ) (c : Command) (f : CmdFault) → IsCommand line c → IsRefused line f → ⊥
not_refused line c f h k =
    let w = same_word (command_word c) k.0 h.1.0 k.1 line h.1.2 k.2 (mean_tail (values_of c) h.1.0 h.1.1)
    (loose_tail _ k.1 (first_loose (arguments_of k.0) k.1 _ f k.3)) in
    let same_kinds : arguments_of k.0 ≡ kinds (values_of c) = ap arguments_of (sym w.0) ∙ sym (command_kinds c) in
    all_good (values_of c) k.1 (length (word_text k.0)) f (command_in_order c)
    (subst (λ x. Mean x (values_of c)) w.1 h.1.1)
    (subst (λ x. IsFirstFault x k.1 (length (word_text k.0)) f) same_kinds k.3)

-- the two causes of `Args`
abbrev IsArgs : List ℕ → ℕ → Type 0
IsArgs line n = HasNoForm line n ⊎ IsRefused line (Args n)

known : (line : List ℕ) (n : ℕ) → IsArgs line n → IsKnown (up_to_space line)
known line n h =
    ⊎_elim (λ (x : HasNoForm line n). x.known) (λ (y : IsRefused line (Args n)). (refused_loose line (Args n) y).0) h

-- a line whose pieces have a fault has the form of a command, so its other fault is of its pieces too
one_or_none : (line : List ℕ) (n : ℕ) (g : CmdFault) → IsArgs line n → IsRefused line g → Args n ≡ g
one_or_none line n g h k =
    ⊎_elim
    (λ (x : HasNoForm line n). absurd (x.none (refused_loose line g k).1))
    (λ (y : IsRefused line (Args n)). one_refused line (Args n) g y k)
    h

one_args : (line : List ℕ) (n m : ℕ) → IsArgs line n → IsArgs line m → Args n ≡ Args m
one_args line n m h k =
    ⊎_elim
    (λ (x : HasNoForm line n).
    ⊎_elim
    (λ (y : HasNoForm line m). ap (λ i. Args i) (one_front _ _ n m x.front y.front))
    (λ (y : IsRefused line (Args m)). absurd (x.none (refused_loose line (Args m) y).1))
    k)
    (λ (x : IsRefused line (Args n)). sym (one_or_none line m (Args n) k x))
    h

pub one_cause : (line : List ℕ) (f g : CmdFault) → f ≢ Memory → g ≢ Memory → IsCmdFault line f → IsCmdFault line g
    → f ≡ g
one_cause line (Long n) (Long m) f g h k = let e : n ≡ m = omega (arith, h.1, k.1) in ap (λ n. Long n) e
one_cause line (Long n) Unknown f g h k = absurd (omega (arith, h.0, k.0))
one_cause line (Long n) (Args m) f g h k = absurd (omega (arith, h.0, k.0))
one_cause line (Long n) (Path m) f g h k = absurd (omega (arith, h.0, k.0))
one_cause line (Long n) (TreeFault m) f g h k = absurd (omega (arith, h.0, k.0))
one_cause line (Long n) Memory f g h k = absurd (g refl)
one_cause line Unknown (Long m) f g h k = absurd (omega (arith, h.0, k.0))
one_cause line Unknown Unknown f g h k = refl
one_cause line Unknown (Args m) f g h k = absurd (h.1 (known line m k.1))
one_cause line Unknown (Path m) f g h k = absurd (h.1 (refused_loose line (Path m) k.1).0)
one_cause line Unknown (TreeFault m) f g h k = absurd (h.1 (refused_loose line (TreeFault m) k.1).0)
one_cause line Unknown Memory f g h k = absurd (g refl)
one_cause line (Args n) (Long m) f g h k = absurd (omega (arith, h.0, k.0))
one_cause line (Args n) Unknown f g h k = absurd (k.1 (known line n h.1))
one_cause line (Args n) (Args m) f g h k = one_args line n m h.1 k.1
one_cause line (Args n) (Path m) f g h k = one_or_none line n (Path m) h.1 k.1
one_cause line (Args n) (TreeFault m) f g h k = one_or_none line n (TreeFault m) h.1 k.1
one_cause line (Args n) Memory f g h k = absurd (g refl)
one_cause line (Path n) (Long m) f g h k = absurd (omega (arith, h.0, k.0))
one_cause line (Path n) Unknown f g h k = absurd (k.1 (refused_loose line (Path n) h.1).0)
one_cause line (Path n) (Args m) f g h k = sym (one_or_none line m (Path n) k.1 h.1)
one_cause line (Path n) (Path m) f g h k = one_refused line (Path n) (Path m) h.1 k.1
one_cause line (Path n) (TreeFault m) f g h k = one_refused line (Path n) (TreeFault m) h.1 k.1
one_cause line (Path n) Memory f g h k = absurd (g refl)
one_cause line (TreeFault n) (Long m) f g h k = absurd (omega (arith, h.0, k.0))
one_cause line (TreeFault n) Unknown f g h k = absurd (k.1 (refused_loose line (TreeFault n) h.1).0)
one_cause line (TreeFault n) (Args m) f g h k = sym (one_or_none line m (TreeFault n) k.1 h.1)
one_cause line (TreeFault n) (Path m) f g h k = one_refused line (TreeFault n) (Path m) h.1 k.1
one_cause line (TreeFault n) (TreeFault m) f g h k = one_refused line (TreeFault n) (TreeFault m) h.1 k.1
one_cause line (TreeFault n) Memory f g h k = absurd (g refl)
one_cause line Memory g f l h k = absurd (f refl)

pub no_cause : (line : List ℕ) (c : Command) (f : CmdFault) → f ≢ Memory → IsCommand line c → IsCmdFault line f → ⊥
no_cause line c (Long n) m h k = absurd (omega (arith, h.0, k.0))
no_cause line c Unknown m h k = k.1 (command_loose line c h).0
no_cause line c (Args n) m h k =
    ⊎_elim
    (λ (x : HasNoForm line n). x.none (command_loose line c h).1)
    (λ (y : IsRefused line (Args n)). not_refused line c (Args n) h y)
    k.1
no_cause line c (Path n) m h k = not_refused line c (Path n) h k.1
no_cause line c (TreeFault fault) m h k = not_refused line c (TreeFault fault) h k.1
no_cause line c Memory m h k = absurd (m refl)
