-- A line is a command, or has a cause.
use Rattle.std.proofs.Common.{◌≡◌, ◌≢◌, ℕ, zero, suc, ◌+◌, ◌<◌, ◌≤◌, Bool, true, false, List, [], ◌∷◌, ◌++◌, length}
use Rattle.std.proofs.Common.{take, drop, get_or, Option, Some, None, ◌⊎◌, inl, inr, ⊎_elim, refl, sym, ap, subst, ◌∙◌}
use Rattle.std.proofs.Common.{arith}
use Rattle.std.specs.Prelude.{MatchOption}
use Rattle.std.proofs.lemmas.List.{append-nil, take_all}
use Rattle.std.proofs.lemmas.Bool.{cases_lt}
use Rattle.tx_base.proofs.Fronts.{ends_before}
use Rattle.tx_tree.specs.Labels.{IsLabel, IsLabelFault}
use Rattle.tx_tree.specs.PathSpelling.{SpellsPath, IsPathFault}
use Rattle.tx_tree.specs.Limits.{IsWithinLimits}
use Rattle.tx_tree.specs.WideTree.{WideTree, leaf, node}
use Rattle.tx_tree.specs.declared.faults.PathFault.{PathFault}
use Rattle.tx_tree.specs.declared.faults.PathFault.TheVariants.{BadPath, Memory as PathMemory}
use Rattle.tx_tree.specs.declared.faults.ReadFault.{ReadFault}
use Rattle.tx_tree.specs.declared.labels.LabelFault.{LabelFault}
use Rattle.tx_tree.specs.declared.labels.LabelFault.TheVariants.{BadLabel, Memory as LabelMemory}
use Rattle.tx_tree.proofs.LabelFaults.{label_or_fault}
use Rattle.tx_tree.proofs.PathFaults.{path_or_fault}
use Rattle.tx_scm.specs.Spelling.{Spells}
use Rattle.tx_scm.specs.Faults.{IsSchemeFault}
use Rattle.tx_scm.proofs.SomeFault.{read_or_fault}
use Rattle.tx_mod.specs.declared.mods.Mod.TheVariants.{Assign, Insert, Remove, Split, Join, AssignNode, InsertNode}
use Rattle.tx_mod.specs.declared.mods.Mod.TheVariants.{RemoveNode}
use Rattle.tx_cmd.specs.declared.TheConstants.{MOST_LINE}
use Rattle.tx_cmd.specs.declared.command.Command.{Command}
use Rattle.tx_cmd.specs.declared.command.Command.TheVariants.{Change, Undo, Redo, At, Go, Click, Left, Right, Typed}
use Rattle.tx_cmd.specs.declared.command.Command.TheVariants.{UndoAt}
use Rattle.tx_cmd.specs.declared.command.Command.TheVariants.{Backspace, Enter, Show, Page, Errors, PlaceOf, Cursor}
use Rattle.tx_cmd.specs.declared.command.Command.TheVariants.{Attrs, Work, Tree, Save, Quit}
use Rattle.tx_cmd.specs.declared.command.CmdFault.{CmdFault}
use Rattle.tx_cmd.specs.declared.command.CmdFault.TheVariants.{Long, Unknown, Args, Path, Tree as TreeFault, Memory}
use Rattle.tx_cmd.specs.declared.words.ModWord.TheVariants.{Assign as AssignWord, Insert as InsertWord}
use Rattle.tx_cmd.specs.declared.words.ModWord.TheVariants.{Remove as RemoveWord, Split as SplitWord, Join as JoinWord}
use Rattle.tx_cmd.specs.declared.words.ModWord.TheVariants.{AssignNode as AssignNodeWord, InsertNode as InsertNodeWord}
use Rattle.tx_cmd.specs.declared.words.ModWord.TheVariants.{RemoveNode as RemoveNodeWord}
use Rattle.tx_cmd.specs.declared.words.Word.{Word}
use Rattle.tx_cmd.specs.declared.words.Word.TheVariants.{Change as ChangeWord, Undo as UndoWord, Redo as RedoWord}
use Rattle.tx_cmd.specs.declared.words.Word.TheVariants.{UndoAt as UndoAtWord}
use Rattle.tx_cmd.specs.declared.words.Word.TheVariants.{At as AtWord, Go as GoWord, Click as ClickWord}
use Rattle.tx_cmd.specs.declared.words.Word.TheVariants.{Left as LeftWord, Right as RightWord, Typed as TypedWord}
use Rattle.tx_cmd.specs.declared.words.Word.TheVariants.{Backspace as BackspaceWord, Enter as EnterWord}
use Rattle.tx_cmd.specs.declared.words.Word.TheVariants.{Show as ShowWord, Page as PageWord, Errors as ErrorsWord}
use Rattle.tx_cmd.specs.declared.words.Word.TheVariants.{Where as WhereWord, Cursor as CursorWord, Attrs as AttrsWord}
use Rattle.tx_cmd.specs.declared.words.Word.TheVariants.{Work as WorkWord, Tree as TreeWord, Save as SaveWord}
use Rattle.tx_cmd.specs.declared.words.Word.TheVariants.{Quit as QuitWord}
use Rattle.tx_cmd.specs.declared.words.ArgumentKind.{ArgumentKind}
use Rattle.tx_cmd.specs.declared.words.ArgumentKind.TheVariants.{Path as PathArgument, Number as NumberArgument}
use Rattle.tx_cmd.specs.declared.words.ArgumentKind.TheVariants.{Label as LabelArgument, Name as NameArgument}
use Rattle.tx_cmd.specs.declared.words.ArgumentKind.TheVariants.{Tree as TreeArgument, Text as TextArgument}
use Rattle.tx_cmd.specs.Words.{word_text, arguments_of, up_to_space, is_file_name_byte, IsKnown}
use Rattle.tx_cmd.specs.Words.{IsLoosePiece, AreLoose}
use Rattle.tx_cmd.specs.Values.{Value, a_path, a_number, a_label, a_name, a_tree, a_text, argument_kind, Means, Mean}
use Rattle.tx_cmd.specs.Commands.{command_word, values_of, IsCommand}
use Rattle.tx_cmd.specs.Pieces.{IsTail, EndsPiece, IsCutPiece, tree_is_last, IsMisfit, IsPieceMisfit, next_number}
use Rattle.tx_cmd.specs.Refusals.{IsBadPiece, IsFirstFault, IsCmdFault}
use Rattle.tx_cmd.specs.Moved.{moved_fault}
use Rattle.tx_cmd.proofs.Splits.{before_space, behind_is}
use Rattle.tx_cmd.proofs.Numerals.{AreRead, none_read, read_number, number_stops, read_next, no_next, no_number}
use Rattle.tx_cmd.proofs.Names.{AreRead as NameRead, none_read as no_name_read, read_more as name_more, read_name}
use Rattle.tx_cmd.proofs.Names.{name_stops, no_name}
use Rattle.tx_cmd.proofs.WordTexts.{word_named, known, arguments_in_order}
use Rattle.tx_cmd.proofs.LooseFronts.{last_of, some_left, misfit_here, misfit_behind}
use Rattle.tx_cmd.proofs.Faults.{args_fault, IsPieceFault, first_kind, piece_fault}

-- ---- one piece

abbrev FitsOrStops : ArgumentKind → List ℕ → Type 0
FitsOrStops a piece = IsLoosePiece a piece ⊎ ((n : ℕ) × IsPieceMisfit a piece (Some n))

-- digits that are all read
all_digits : (bytes : List ℕ) (v : ℕ) → AreRead bytes v → FitsOrStops NumberArgument bytes
all_digits [] v h = inr (0, no_number [] refl)
all_digits (b ∷ bytes) v h = inl (v, read_number (b ∷ bytes) v h (omega arith))

number_from : (left : ℕ) (bytes : List ℕ) (i v : ℕ) → i + left ≡ length bytes → AreRead (take i bytes) v
    → FitsOrStops NumberArgument bytes
number_from zero bytes i v e h =
    all_digits bytes v (subst (λ x. AreRead x v) (take_all i bytes (omega arith)) h)
number_from (suc left) bytes i v e h =
    elim (cases_lt i 10) [
      | inl few ↦
          next_one (next_number v (get_or bytes i 0)) refl few
          (λ w k. number_from left bytes (i + 1) w (omega arith) k)
      | inr many ↦ inr (i, number_stops bytes i v (omega arith) h (λ d few. absurd (omega arith)))
    ]
  where
    next_one : (next : Option ℕ) → next_number v (get_or bytes i 0) ≡ next → i < 10
        → ((w : ℕ) → AreRead (take (i + 1) bytes) w → FitsOrStops NumberArgument bytes)
        → FitsOrStops NumberArgument bytes
    next_one None f few on =
        inr (i, number_stops bytes i v (omega arith) h (λ d less. no_next v (get_or bytes i 0) f d))
    next_one (Some w) f few on = on w (read_next bytes i v w (omega arith) h few f)

all_name : (bytes : List ℕ) → NameRead bytes → FitsOrStops NameArgument bytes
all_name [] h = inr (0, no_name [] refl)
all_name (b ∷ bytes) h = inl (read_name (b ∷ bytes) h (omega arith))

name_from : (left : ℕ) (bytes : List ℕ) (i : ℕ) → i + left ≡ length bytes → NameRead (take i bytes)
    → FitsOrStops NameArgument bytes
name_from zero bytes i e h = all_name bytes (subst NameRead (take_all i bytes (omega arith)) h)
name_from (suc left) bytes i e h =
    elim (cases_lt i 255) [
      | inl few ↦
          next_one (is_file_name_byte (get_or bytes i 0)) refl few (λ k. name_from left bytes (i + 1) (omega arith) k)
      | inr many ↦ inr (i, name_stops bytes i (omega arith) h (λ d few. absurd (omega arith)))
    ]
  where
    next_one : (may : Bool) → is_file_name_byte (get_or bytes i 0) ≡ may → i < 255
        → (NameRead (take (i + 1) bytes) → FitsOrStops NameArgument bytes) → FitsOrStops NameArgument bytes
    next_one true f few on = on (name_more bytes i (omega arith) h f few)
    next_one false f few on = inr (i, name_stops bytes i (omega arith) h (λ d less. cc))

label_fits : (piece : List ℕ) → FitsOrStops LabelArgument piece
label_fits piece =
    ⊎_elim (λ (h : IsLabel piece). inl h) (λ (f : (fault : LabelFault) × IsLabelFault piece fault). stops f.0 f.1)
    (label_or_fault piece)
  where
    stops : (fault : LabelFault) → IsLabelFault piece fault → FitsOrStops LabelArgument piece
    stops (BadLabel n) h = inr (n, h)
    stops LabelMemory h = absurd h

piece_fits : (a : ArgumentKind) (piece rest : List ℕ) → EndsPiece a piece rest → FitsOrStops a piece
piece_fits PathArgument piece rest h = inl h.0
piece_fits NumberArgument piece rest h = number_from (length piece) piece 0 0 (omega arith) none_read
piece_fits LabelArgument piece rest h = label_fits piece
piece_fits NameArgument piece rest h = name_from (length piece) piece 0 (omega arith) no_name_read
piece_fits TreeArgument piece rest h = inl tt
piece_fits TextArgument piece rest h = inl tt

-- ---- all pieces

abbrev HasCut : ArgumentKind → List ℕ → Type 0
HasCut a bytes = (piece rest : List ℕ) × IsCutPiece a bytes piece rest

cut_all : (b : ℕ) (x : List ℕ) → b ≡ 32 → b ∷ x ≡ 32 ∷ (x ++ [])
cut_all b x e = ap (λ k. k ∷ x) e ∙ ap (λ y. 32 ∷ y) (sym (append-nil x))

cut_word : (b : ℕ) (x : List ℕ) → b ≡ 32
    → b ∷ x ≡ 32 ∷ (up_to_space x ++ drop (length (up_to_space x)) x)
cut_word b x e = ap (λ k. k ∷ x) e ∙ ap (λ y. 32 ∷ y) (behind_is x).1

some_cut : (a : ArgumentKind) (b : ℕ) (x : List ℕ) → b ≡ 32 → HasCut a (b ∷ x)
some_cut PathArgument b x e = (
  up_to_space x,
  drop (length (up_to_space x)) x,
  record { are = cut_word b x e; ends = (before_space x, (behind_is x).0) },
)
some_cut NumberArgument b x e = (
  up_to_space x,
  drop (length (up_to_space x)) x,
  record { are = cut_word b x e; ends = (before_space x, (behind_is x).0) },
)
some_cut LabelArgument b x e = (
  up_to_space x,
  drop (length (up_to_space x)) x,
  record { are = cut_word b x e; ends = (before_space x, (behind_is x).0) },
)
some_cut NameArgument b x e = (
  up_to_space x,
  drop (length (up_to_space x)) x,
  record { are = cut_word b x e; ends = (before_space x, (behind_is x).0) },
)
some_cut TreeArgument b x e = (x, [], record { are = cut_all b x e; ends = refl })
some_cut TextArgument b x e = (x, [], record { are = cut_all b x e; ends = refl })

tail_of : (a : ArgumentKind) (piece rest : List ℕ) → EndsPiece a piece rest → IsTail rest
tail_of PathArgument piece rest h = h.1
tail_of NumberArgument piece rest h = h.1
tail_of LabelArgument piece rest h = h.1
tail_of NameArgument piece rest h = h.1
tail_of TreeArgument piece rest h = subst IsTail (sym h) tt
tail_of TextArgument piece rest h = subst IsTail (sym h) tt

abbrev AllFitOrStop : List ArgumentKind → List ℕ → Type 0
AllFitOrStop arguments bytes = AreLoose arguments bytes ⊎ ((n : ℕ) × IsMisfit arguments bytes (Some n))

none_more : (b : ℕ) (x : List ℕ) → IsMisfit [] (b ∷ x) (Some 0)
none_more b x = ends_before (AreLoose []) (b ∷ x) 0 (omega arith) ([], refl) (λ more k. absurd (cc))

all_fit : (arguments : List ArgumentKind) (bytes : List ℕ) → tree_is_last arguments ≡ true → IsTail bytes
    → AllFitOrStop arguments bytes
all_fit [] [] o t = inl refl
all_fit [] (b ∷ x) o t = inr (0, none_more b x)
all_fit (a ∷ more) [] o t = inr (0, some_left (a ∷ more) [] (omega arith) refl)
all_fit (a ∷ more) (b ∷ x) o t =
    let c = some_cut a b x t in
    first_piece c.0 c.1 c.2 (all_fit more c.1 (last_of a more o) (tail_of a c.0 c.1 c.2.ends))
  where
    first_piece : (piece rest : List ℕ) → IsCutPiece a (b ∷ x) piece rest → AllFitOrStop more rest
        → AllFitOrStop (a ∷ more) (b ∷ x)
    first_piece piece rest c others =
        ⊎_elim
        (λ (h : IsLoosePiece a piece).
        ⊎_elim
        (λ (k : AreLoose more rest). inl (piece, rest, h, k, c.are))
        (λ (k : (n : ℕ) × IsMisfit more rest (Some n)). inr
        (1 + length piece + k.0, misfit_behind a more (b ∷ x) piece rest k.0 o c h k.1))
        others)
        (λ (h : (n : ℕ) × IsPieceMisfit a piece (Some n)). inr
        (1 + h.0, misfit_here a more (b ∷ x) piece rest h.0 c h.1))
        (piece_fits a piece rest c.ends)

-- ---- values of pieces

-- what an argument of this kind holds
abbrev Held : ArgumentKind → Type 0
Held PathArgument = List ℕ
Held NumberArgument = ℕ
Held LabelArgument = List ℕ
Held NameArgument = List ℕ
Held TreeArgument = WideTree
Held TextArgument = List ℕ

abbrev value_of : (a : ArgumentKind) → Held a → Value
value_of PathArgument x = a_path x
value_of NumberArgument x = a_number x
value_of LabelArgument x = a_label x
value_of NameArgument x = a_name x
value_of TreeArgument x = a_tree x
value_of TextArgument x = a_text x

kind_is : (a : ArgumentKind) (x : Held a) → argument_kind (value_of a x) ≡ a
kind_is PathArgument x = refl
kind_is NumberArgument x = refl
kind_is LabelArgument x = refl
kind_is NameArgument x = refl
kind_is TreeArgument x = refl
kind_is TextArgument x = refl

abbrev AllHeld : List ArgumentKind → Type 0
AllHeld [] = Unit {0}
AllHeld (a ∷ more) = Held a × AllHeld more

abbrev values_held : (arguments : List ArgumentKind) → AllHeld arguments → List Value
values_held [] h = []
values_held (a ∷ more) h = value_of a h.0 ∷ values_held more h.1

abbrev MeansOrBad : ArgumentKind → List ℕ → ℕ → Type 0
MeansOrBad a piece at = ((x : Held a) × Means piece (value_of a x)) ⊎ ((f : CmdFault) × IsBadPiece a piece at f)

path_means : (piece : List ℕ) (at : ℕ) → MeansOrBad PathArgument piece at
path_means piece at =
    ⊎_elim (λ (h : (path : List ℕ) × SpellsPath piece path). inl h)
    (λ (f : (fault : PathFault) × IsPathFault piece fault). bad f.0 f.1) (path_or_fault piece)
  where
    bad : (fault : PathFault) → IsPathFault piece fault → MeansOrBad PathArgument piece at
    bad (BadPath m) h = inr (Path (at + m), (m, h, refl))
    bad PathMemory h = absurd h

abbrev IsRead : List ℕ → Type 0
IsRead piece = (t : WideTree) × Spells piece t × IsWithinLimits t

abbrev HasFault : List ℕ → Type 0
HasFault piece = (f : ReadFault) × IsSchemeFault piece f

tree_means : (piece : List ℕ) (at : ℕ) → MeansOrBad TreeArgument piece at
tree_means piece at =
    ⊎_elim (λ (h : IsRead piece). inl (h.0, (h.1, h.2)))
    (λ (f : HasFault piece). inr (TreeFault (moved_fault at f.0), (f.0, f.1, refl))) (read_or_fault piece)

text_means : (piece : List ℕ) (at : ℕ) → MeansOrBad TextArgument piece at
text_means piece at =
    ⊎_elim (λ (h : IsRead piece). leaf_or_node h.0 h.1 h.2)
    (λ (f : HasFault piece). inr (TreeFault (moved_fault at f.0), inl (f.0, f.1, refl))) (read_or_fault piece)
  where
    leaf_or_node : (t : WideTree) → Spells piece t → IsWithinLimits t → MeansOrBad TextArgument piece at
    leaf_or_node (leaf x) h k = inl (x, (h, k))
    leaf_or_node (node l ts) h k = inr (Args at, inr ((node l ts, h, k, refl), refl))

piece_means : (a : ArgumentKind) (piece : List ℕ) (at : ℕ) → IsLoosePiece a piece → MeansOrBad a piece at
piece_means PathArgument piece at h = path_means piece at
piece_means NumberArgument piece at h = inl (h.0, h.1)
piece_means LabelArgument piece at h = inl (piece, (h, refl))
piece_means NameArgument piece at h = inl (piece, (h, refl))
piece_means TreeArgument piece at h = tree_means piece at
piece_means TextArgument piece at h = text_means piece at

abbrev AllMeanOrBad : List ArgumentKind → List ℕ → ℕ → Type 0
AllMeanOrBad arguments bytes at = ((h : AllHeld arguments) × Mean bytes (values_held arguments h))
    ⊎ ((f : CmdFault) × IsFirstFault arguments bytes at f)

all_mean : (arguments : List ArgumentKind) (bytes : List ℕ) (at : ℕ) → AreLoose arguments bytes
    → AllMeanOrBad arguments bytes at
all_mean [] bytes at h = inl (tt, h)
all_mean (a ∷ more) bytes at h =
    first_piece h.0 h.1 h.2 h.3 h.4 (all_mean more h.1 (at + 1 + length h.0) h.3)
  where
    first_piece : (piece rest : List ℕ) → IsLoosePiece a piece → AreLoose more rest → bytes ≡ 32 ∷ (piece ++ rest)
        → AllMeanOrBad more rest (at + 1 + length piece) → AllMeanOrBad (a ∷ more) bytes at
    first_piece piece rest loose others are later =
        ⊎_elim
        (λ (m : (x : Held a) × Means piece (value_of a x)).
        ⊎_elim
        (λ (k : (hs : AllHeld more) × Mean rest (values_held more hs)). inl
        ((m.0, k.0), (piece, rest, m.1, k.1, are)))
        (λ (k : (f : CmdFault) × IsFirstFault more rest (at + 1 + length piece) f). inr
        (k.0, (piece, rest, are, loose, others, inr ((value_of a m.0, kind_is a m.0, m.1), k.1))))
        later)
        (λ (m : (f : CmdFault) × IsBadPiece a piece (at + 1) f). inr
        (m.0, (piece, rest, are, loose, others, inl m.1)))
        (piece_means a piece (at + 1) loose)

-- ---- commands

-- the command of this word that holds these
abbrev Makes : Word → List Value → Type 0
Makes w values = (c : Command) × (command_word c ≡ w) × (values_of c ≡ values)

made_of : (w : Word) (h : AllHeld (arguments_of w)) → Makes w (values_held (arguments_of w) h)
made_of (ChangeWord AssignWord) h = (Change (Assign h.0 h.1.0), refl, refl)
made_of (ChangeWord InsertWord) h = (Change (Insert h.0 h.1.0 h.1.1.0), refl, refl)
made_of (ChangeWord RemoveWord) h = (Change (Remove h.0 h.1.0 h.1.1.0), refl, refl)
made_of (ChangeWord SplitWord) h = (Change (Split h.0 h.1.0 h.1.1.0), refl, refl)
made_of (ChangeWord JoinWord) h = (Change (Join h.0 h.1.0), refl, refl)
made_of (ChangeWord AssignNodeWord) h = (Change (AssignNode h.0 h.1.0), refl, refl)
made_of (ChangeWord InsertNodeWord) h = (Change (InsertNode h.0 h.1.0 h.1.1.0), refl, refl)
made_of (ChangeWord RemoveNodeWord) h = (Change (RemoveNode h.0 h.1.0), refl, refl)
made_of UndoWord h = (Undo, refl, refl)
made_of UndoAtWord h = (UndoAt h.0, refl, refl)
made_of RedoWord h = (Redo, refl, refl)
made_of AtWord h = (At h.0, refl, refl)
made_of GoWord h = (Go h.0, refl, refl)
made_of ClickWord h = (Click h.0 h.1.0, refl, refl)
made_of LeftWord h = (Left, refl, refl)
made_of RightWord h = (Right, refl, refl)
made_of TypedWord h = (Typed h.0, refl, refl)
made_of BackspaceWord h = (Backspace, refl, refl)
made_of EnterWord h = (Enter, refl, refl)
made_of ShowWord h = (Show, refl, refl)
made_of PageWord h = (Page h.0, refl, refl)
made_of ErrorsWord h = (Errors, refl, refl)
made_of WhereWord h = (PlaceOf h.0 h.1.0, refl, refl)
made_of CursorWord h = (Cursor, refl, refl)
made_of AttrsWord h = (Attrs h.0, refl, refl)
made_of WorkWord h = (Work, refl, refl)
made_of TreeWord h = (Tree, refl, refl)
made_of SaveWord h = (Save h.0, refl, refl)
made_of QuitWord h = (Quit, refl, refl)

-- ---- lines

abbrev IsAnswered : List ℕ → Type 0
IsAnswered line = ((c : Command) × IsCommand line c) ⊎ ((f : CmdFault) × (f ≢ Memory) × IsCmdFault line f)

known_answered : (w : Word) (line first rest : List ℕ) → length line ≤ MOST_LINE → first ≡ up_to_space line
    → first ≡ word_text w → IsTail rest → line ≡ first ++ rest → IsAnswered line
known_answered w line first rest short is_first is_word tail are =
    ⊎_elim
    (λ (loose : AreLoose (arguments_of w) rest).
    ⊎_elim
    (λ (m : (h : AllHeld (arguments_of w)) × Mean rest (values_held (arguments_of w) h)). command m.0 m.1)
    (λ (m : (f : CmdFault) × IsFirstFault (arguments_of w) rest (length first) f). inr
    (m.0, no_memory m.0 m.1, piece_fault w line first rest m.0 short is_word are (λ e. m.1)))
    (all_mean (arguments_of w) rest (length first) loose))
    (λ (m : (n : ℕ) × IsMisfit (arguments_of w) rest (Some n)). inr
    (Args (length first + m.0), (λ e. cc), args_fault w line first rest m.0 short is_first is_word are m.1))
    (all_fit (arguments_of w) rest (arguments_in_order w) tail)
  where
    command : (h : AllHeld (arguments_of w)) → Mean rest (values_held (arguments_of w) h) → IsAnswered line
    command h m =
        let k = made_of w h in
        inl (
          k.0,
          (
            short,
            (
              rest,
              subst (λ vs. Mean rest vs) (sym k.2) m,
              are ∙ ap (λ x. x ++ rest) is_word ∙ ap (λ v. word_text v ++ rest) (sym k.1),
            ),
          ),
        )

    no_memory : (f : CmdFault) → IsFirstFault (arguments_of w) rest (length first) f → f ≢ Memory
    no_memory f m e = subst IsPieceFault e (first_kind (arguments_of w) rest (length first) f m)

pub some_answer : (line : List ℕ) → IsAnswered line
some_answer line =
    elim (cases_lt MOST_LINE (length line)) [
      | inl long ↦ inr (Long (length line), (λ e. cc), (long, refl))
      | inr short ↦ by_word short (word_named (up_to_space line)) (known (up_to_space line) _ refl)
    ]
  where
    by_word : length line ≤ MOST_LINE → (r : Option Word)
        → MatchOption r (¬ IsKnown (up_to_space line)) (λ w. up_to_space line ≡ word_text w) → IsAnswered line
    by_word short None h = inr (Unknown, (λ e. cc), (short, h))
    by_word short (Some w) h =
        let b = behind_is line in
        known_answered w line (up_to_space line) (drop (length (up_to_space line)) line) short refl h b.0 b.1
