-- Runs of cells, as they come from the left.
use Rattle.std.proofs.Common.{◌≡◌, ℕ, ◌+◌, ◌-◌, ◌<◌, ◌≤◌, zero, suc, Bool, true, false, List, [], ◌∷◌, ◌++◌, length}
use Rattle.std.proofs.Common.{drop, get_or, refl, sym, ap, subst, ◌∙◌, append_assoc, arith, add-zero, zero-add}
use Rattle.std.specs.Prelude.{Option, Some, None, ◌==◌, ◌&&◌, if◌then◌else◌, replicate}
use Rattle.std.specs.List.{flat_map}
use Rattle.std.proofs.lemmas.Bool.Decides.{Decides-eqb}
use Rattle.std.proofs.lemmas.List.{append-nil, drop_more, replicate-append-replicate}
use Rattle.std.proofs.lemmas.List.Concat.{flat_map-append}
use Rattle.std.proofs.lemmas.Slice.Eq.{bytes_eq-Decides}
use Rattle.std.specs.Str.{bytes_eq}
use Rattle.tx_items.specs.declared.drawing.Item.{Item}
use Rattle.tx_items.specs.Cells.{item_cells}
use Rattle.tx_view_form.specs.Cells.{drawn_in}
use Rattle.tx_print.specs.Runs.{CellLook, CellRun, item_looks, look_in, same_look, cell_before, runs_from}
use Rattle.tx_print.specs.Runs.{run_text}
use Rattle.tx_print.specs.Begun.{OpenRun, is_like, run_begun, run_going_on, runs_ended, runs_behind}
use Rattle.tx_outside.specs.Outside.{SinkSeen}
use Rattle.tx_print.specs.declared.printer.Printer.{Printer}
use Rattle.tx_print.specs.Printers.{PrinterAdds}
use Rattle.tx_print.proofs.Adding.{adds_then, adds_also, adds_nothing}

same_refl : (x : CellLook) → same_look x x ≡ true
same_refl x =
    let a = (bytes_eq-Decides x.series x.series).1 refl in
    let b = (bytes_eq-Decides x.shape x.shape).1 refl in
    let c = (bytes_eq-Decides x.color x.color).1 refl in
    rw (a, b, c)

abbrev look_with : List ℕ → List ℕ → List ℕ → CellLook
look_with series shape color = record { series = series; shape = shape; color = color }

abbrev run_with : ℕ → ℕ → CellLook → CellRun
run_with from to look = record { from = from; to = to; look = look }

-- cells that look the same to the test are the same
same_is : (x y : CellLook) → same_look x y ≡ true → x ≡ y
same_is x y e =
    by_parts (bytes_eq x.series y.series) (bytes_eq x.shape y.shape) (bytes_eq x.color y.color) e
    (bytes_eq-Decides x.series y.series).0 (bytes_eq-Decides x.shape y.shape).0 (bytes_eq-Decides x.color y.color).0
  where
    by_parts : (a b c : Bool) → (a && b && c) ≡ true → (a ≡ true → x.series ≡ y.series) → (b ≡ true → x.shape ≡ y.shape)
        → (c ≡ true → x.color ≡ y.color) → x ≡ y
    by_parts true true true e f g h =
        ap (λ t. look_with t x.shape x.color) (f refl) ∙ ap (λ t. look_with y.series t x.color) (g refl)
        ∙ ap (λ t. look_with y.series y.shape t) (h refl)
    by_parts true true false e f g h = cc
    by_parts true false c e f g h = cc
    by_parts false b c e f g h = cc

-- the first run can't be one with a cell that looks so before it
abbrev Apart : ℕ → CellLook → List CellRun → Type 0
Apart at look [] = Unit {0}
Apart at look (r ∷ rs) = ((r.from == at + 1) && same_look look r.look) ≡ false

apart_before : (at : ℕ) (look : CellLook) (rs : List CellRun) → Apart at look rs
    → cell_before at look rs ≡ run_with at (at + 1) look ∷ rs
apart_before at look [] h = refl
apart_before at look (r ∷ rs) h = rw h

joined_before : (at to : ℕ) (look : CellLook) (rs : List CellRun)
    → cell_before at look (run_with (at + 1) to look ∷ rs)
    ≡ run_with at to look ∷ rs
joined_before at to look rs = rw ((Decides-eqb (at + 1) (at + 1)).1 refl, same_refl look)

-- no run begins before the first cell
abbrev Begins : ℕ → List CellRun → Type 0
Begins at [] = Unit {0}
Begins at (r ∷ rs) = at ≤ r.from

begins_earlier : (at : ℕ) (rs : List CellRun) → Begins (at + 1) rs → Begins at rs
begins_earlier at [] h = tt
begins_earlier at (r ∷ rs) h = omega arith

begins_here : (at : ℕ) (look : CellLook) (rs : List CellRun) → Begins at (cell_before at look rs)
begins_here at look [] = omega arith
begins_here at look (r ∷ rs) = by_test ((r.from == at + 1) && same_look look r.look)
  where
    by_test : (b : Bool)
        → Begins at (if b then run_with at r.to look ∷ rs
        else run_with at (at + 1) look ∷ (r ∷ rs))
    by_test true = omega arith
    by_test false = omega arith

begins : (at : ℕ) (cells : List (Option CellLook)) → Begins at (runs_from at cells)
begins at [] = tt
begins at (None ∷ cells) = begins_earlier at (runs_from (at + 1) cells) (begins (at + 1) cells)
begins at (Some look ∷ cells) = begins_here at look (runs_from (at + 1) cells)

-- the first cell doesn't look so
abbrev Unlike : CellLook → List (Option CellLook) → Type 0
Unlike look [] = Unit {0}
Unlike look (None ∷ cells) = Unit {0}
Unlike look (Some other ∷ cells) = same_look look other ≡ false

later_apart : (at : ℕ) (look : CellLook) (rs : List CellRun) → Begins (at + 1 + 1) rs → Apart at look rs
later_apart at look [] h = tt
later_apart at look (r ∷ rs) h = let e : (r.from == at + 1) ≡ false = grind arith in rw e

unlike_here : (at : ℕ) (look other : CellLook) (rs : List CellRun) → same_look look other ≡ false
    → Apart at look (cell_before (at + 1) other rs)
unlike_here at look other [] h = unlike (at + 1 == at + 1)
  where
    unlike : (b : Bool) → (b && same_look look other) ≡ false
    unlike true = h
    unlike false = refl
unlike_here at look other (r ∷ rs) h = by_test ((r.from == at + 1 + 1) && same_look other r.look)
  where
    unlike : (b : Bool) → (b && same_look look other) ≡ false
    unlike true = h
    unlike false = refl

    by_test : (b : Bool)
        → Apart at look (if b then run_with (at + 1) r.to other ∷ rs
        else run_with (at + 1) (at + 1 + 1) other ∷ (r ∷ rs))
    by_test true = unlike (at + 1 == at + 1)
    by_test false = unlike (at + 1 == at + 1)

unlike_apart : (at : ℕ) (look : CellLook) (cells : List (Option CellLook)) → Unlike look cells
    → Apart at look (runs_from (at + 1) cells)
unlike_apart at look [] h = tt
unlike_apart at look (None ∷ cells) h = later_apart at look (runs_from (at + 1 + 1) cells) (begins (at + 1 + 1) cells)
unlike_apart at look (Some other ∷ cells) h = unlike_here at look other (runs_from (at + 1 + 1) cells) h

-- cells that look the same, and after them none that does
longest : (n at : ℕ) (look : CellLook) (cells : List (Option CellLook)) → Unlike look cells
    → runs_from at (replicate (suc n) (Some look) ++ cells)
    ≡ run_with at (at + suc n) look ∷ runs_from (at + suc n) cells
longest zero at look cells h = apart_before at look (runs_from (at + 1) cells) (unlike_apart at look cells h)
longest (suc n) at look cells h =
    let e : at + 1 + suc n ≡ at + suc (suc n) = omega arith in
    ap (cell_before at look) (longest n (at + 1) look cells h)
    ∙ joined_before at (at + 1 + suc n) look (runs_from (at + 1 + suc n) cells)
    ∙ ap (λ k. run_with at k look ∷ runs_from k cells) e

-- cells without attributes
pub blanks : (n at : ℕ) (cells : List (Option CellLook))
    → runs_from at (replicate n None ++ cells) ≡ runs_from (at + n) cells
blanks zero at cells = ap (λ k. runs_from k cells) (sym (add-zero at))
blanks (suc n) at cells =
    let e : at + 1 + n ≡ at + suc n = omega arith in
    blanks n (at + 1) cells ∙ ap (λ k. runs_from k cells) e

-- a run begins before the column after its last cell
abbrev pub IsOpen : Option OpenRun → ℕ → Type 0
IsOpen None at = Unit {0}
IsOpen (Some run) at = run.from < at

-- some cells more, where no run has begun before them
opens : (look : Option CellLook) (at n : ℕ) (rest : List (Option CellLook))
    → runs_from at (replicate n look ++ rest) ≡ runs_behind (run_begun look at) (at + n) rest
opens None at n rest = blanks n at rest
opens (Some look) at n rest =
    let e : n ≡ at + n - at = omega arith in ap (λ k. runs_from at (replicate k (Some look) ++ rest)) e

begun_ends : (run : OpenRun) (at : ℕ) (cells : List (Option CellLook)) → run.from < at → Unlike run.look cells
    → runs_behind (Some run) at cells
    ≡ run_with run.from at run.look ∷ runs_from at cells
begun_ends run at cells lt h =
    let d : at - run.from ≡ suc (at - run.from - 1) = omega arith in
    let e : run.from + suc (at - run.from - 1) ≡ at = omega arith in
    ap (λ k. runs_from run.from (replicate k (Some run.look) ++ cells)) d
    ∙ longest (at - run.from - 1) run.from run.look cells h
    ∙ ap (λ k. run_with run.from k run.look ∷ runs_from k cells) e

not_like : (look : Option CellLook) (own : CellLook) (n : ℕ) (rest : List (Option CellLook)) → 0 < n
    → is_like look own ≡ false → Unlike own (replicate n look ++ rest)
not_like look own zero rest lt h = absurd (omega arith)
not_like None own (suc n) rest lt h = tt
not_like (Some look) own (suc n) rest lt h = h

like_is : (look : Option CellLook) (own : CellLook) → is_like look own ≡ true → look ≡ Some own
like_is None own h = cc
like_is (Some look) own h = ap Some (sym (same_is own look h))

-- some cells more
cells_on : (begun : Option OpenRun) (look : Option CellLook) (at n : ℕ) (rest : List (Option CellLook))
    → IsOpen begun at → 0 < n
    → runs_behind begun at (replicate n look ++ rest)
    ≡ runs_ended begun look at ++ runs_behind (run_going_on begun look at) (at + n) rest
cells_on None look at n rest is_open lt = opens look at n rest
cells_on (Some run) look at n rest is_open lt =
    by_test (is_like look run.look) is_open (like_is look run.look) (not_like look run.look n rest lt)
  where
    by_test : (b : Bool) → run.from < at → (b ≡ true → look ≡ Some run.look)
        → (b ≡ false → Unlike run.look (replicate n look ++ rest))
        → runs_behind (Some run) at (replicate n look ++ rest)
        ≡ (if b then [] else run_with run.from at run.look ∷ [])
        ++ runs_behind (if b then Some run else run_begun look at) (at + n) rest
    by_test true before same other =
        let d : at - run.from + n ≡ at + n - run.from = omega arith in
        ap (λ o. runs_from run.from (replicate (at - run.from) (Some run.look) ++ (replicate n o ++ rest))) (same refl)
        ∙ ap (runs_from run.from) (sym (append_assoc (replicate (at - run.from) (Some run.look))
        (replicate n (Some run.look)) rest)
        ∙ ap (λ xs. xs ++ rest) (replicate-append-replicate (at - run.from) n (Some run.look)
        ∙ ap (λ k. replicate k (Some run.look)) d))
    by_test false before same other =
        begun_ends run at (replicate n look ++ rest) before (other refl)
        ∙ ap (λ rs. run_with run.from at run.look ∷ rs) (opens look at n rest)

-- what has begun when no cell is left
abbrev pub closed : Option OpenRun → ℕ → List CellRun
closed None at = []
closed (Some run) at = run_with run.from at run.look ∷ []

closes : (begun : Option OpenRun) (at : ℕ) → IsOpen begun at → runs_behind begun at [] ≡ closed begun at
closes None at is_open = refl
closes (Some run) at is_open = begun_ends run at [] is_open tt

pub still_open : (begun : Option OpenRun) (look : Option CellLook) (at n : ℕ) → IsOpen begun at → 0 < n
    → IsOpen (run_going_on begun look at) (at + n)
still_open None None at n is_open lt = tt
still_open None (Some look) at n is_open lt = omega arith
still_open (Some run) look at n is_open lt = by_test (is_like look run.look) is_open lt
  where
    opened_there : (other : Option CellLook) → 0 < n → IsOpen (run_begun other at) (at + n)
    opened_there None some = tt
    opened_there (Some other) some = omega arith

    by_test : (b : Bool) → run.from < at → 0 < n → IsOpen (if b then Some run else run_begun look at) (at + n)
    by_test true before some = omega arith
    by_test false before some = opened_there look some

-- some runs are printed, one may have begun, and with those of the cells that are left these are all
pub record Told (p : Printer) (w : SinkSeen) (q : Printer) (x : SinkSeen) (begun : Option OpenRun) (at : ℕ)
    (cells : List (Option CellLook)) (whole : List CellRun) : Type 0 where
  pub done : List CellRun
  pub adds : PrinterAdds (flat_map run_text done) p w q x
  pub are : done ++ runs_behind begun at cells ≡ whole

pub told_on : {p q r : Printer} {w x y : SinkSeen} (begun : Option OpenRun) (look : Option CellLook)
    (at n : ℕ) (rest : List (Option CellLook)) (whole : List CellRun) → IsOpen begun at → 0 < n
    → Told p w q x begun at (replicate n look ++ rest) whole
    → PrinterAdds (flat_map run_text (runs_ended begun look at)) q x r y
    → Told p w r y (run_going_on begun look at) (at + n) rest whole
told_on begun look at n rest whole is_open lt told adds =
    record {
      done = told.done ++ runs_ended begun look at;
      adds = adds_also (sym (flat_map-append run_text told.done (runs_ended begun look at))) (adds_then told.adds adds);
      are = append_assoc told.done (runs_ended begun look at) (runs_behind (run_going_on begun look at) (at + n) rest)
          ∙ ap (λ rs. told.done ++ rs) (sym (cells_on begun look at n rest is_open lt)) ∙ told.are;
    }

pub told_all : {p q r : Printer} {w x y : SinkSeen} (begun : Option OpenRun) (at : ℕ) (whole : List CellRun)
    → IsOpen begun at → Told p w q x begun at [] whole → PrinterAdds (flat_map run_text (closed begun at)) q x r y
    → PrinterAdds (flat_map run_text whole) p w r y
told_all begun at whole is_open told adds =
    adds_also (sym (flat_map-append run_text told.done (closed begun at))
    ∙ ap (flat_map run_text) (ap (λ rs. told.done ++ rs) (sym (closes begun at is_open)) ∙ told.are))
    (adds_then told.adds adds)

-- ---- as the program goes over items

pub told_start : {p : Printer} {w : SinkSeen} (at indent : ℕ) (items others : List Item) → at ≡ indent
    → others ≡ items
    → Told p w p w None at (flat_map item_looks others)
    (runs_from 0 (replicate indent None ++ flat_map item_looks items))
told_start at indent items others e same =
    record {
      done = [];
      adds = adds_nothing;
      are = ap (λ k. runs_from k (flat_map item_looks others)) e
          ∙ ap (λ xs. runs_from indent (flat_map item_looks xs)) same
          ∙ sym (blanks indent 0 (flat_map item_looks items)
          ∙ ap (λ k. runs_from k (flat_map item_looks items)) (zero-add indent));
    }

pub told_same : {p q : Printer} {w x : SinkSeen} (begun : Option OpenRun) (at : ℕ)
    (cells others : List (Option CellLook)) (whole : List CellRun) → cells ≡ others → Told p w q x begun at cells whole
    → Told p w q x begun at others whole
told_same begun at cells others whole e told =
    record {
      done = told.done;
      adds = told.adds;
      are = ap (λ xs. told.done ++ runs_behind begun at xs) (sym e) ∙ told.are;
    }

pub items_less : (items : List Item) (i : ℕ) (x : Item) → i < length items → x ≡ get_or items i x
    → flat_map item_looks (drop i items) ≡ item_looks x ++ flat_map item_looks (drop (i + 1) items)
items_less items i x lt is =
    ap (flat_map item_looks) (drop_more items i x lt ∙ ap (λ y. y ∷ drop (i + 1) items) (sym is))

pub item_less : (items : List Item) (i : ℕ) (x : Item) (n : ℕ) → i < length items → x ≡ get_or items i x
    → n ≡ item_cells x
    → flat_map item_looks (drop i items)
    ≡ replicate n (look_in (drawn_in x)) ++ flat_map item_looks (drop (i + 1) items)
item_less items i x n lt is e =
    items_less items i x lt is
    ∙ ap (λ k. replicate k (look_in (drawn_in x)) ++ flat_map item_looks (drop (i + 1) items)) (sym e)

pub told_item : {p q r : Printer} {w x y : SinkSeen} (begun after : Option OpenRun)
    (own look : Option CellLook) (at n : ℕ) (rest : List (Option CellLook)) (whole : List CellRun) → own ≡ look
    → after ≡ run_going_on begun own at → IsOpen begun at → 0 < n
    → Told p w q x begun at (replicate n look ++ rest) whole
    → PrinterAdds (flat_map run_text (runs_ended begun own at)) q x r y → Told p w r y after (at + n) rest whole
told_item {p} {q} {r} {w} {x} {y} begun after own look at n rest whole e is is_open lt told adds =
    subst (λ (b : Option OpenRun). Told p w r y b (at + n) rest whole) (sym is)
    (told_on begun own at n rest whole is_open lt
    (told_same begun at (replicate n look ++ rest) (replicate n own ++ rest) whole
    (ap (λ o. replicate n o ++ rest) (sym e)) told)
    adds)

pub open_item : (begun after : Option OpenRun) (own : Option CellLook) (at n : ℕ) → after ≡ run_going_on begun own at
    → IsOpen begun at → 0 < n → IsOpen after (at + n)
open_item begun after own at n is is_open lt =
    subst (λ (b : Option OpenRun). IsOpen b (at + n)) (sym is) (still_open begun own at n is_open lt)

pub told_closed : {p q r : Printer} {w x y : SinkSeen} (begun : Option OpenRun) (run : OpenRun) (at : ℕ)
    (cells : List (Option CellLook)) (whole : List CellRun) → begun ≡ Some run → cells ≡ [] → IsOpen begun at
    → Told p w q x begun at cells whole → PrinterAdds (run_text (run_with run.from at run.look)) q x r y
    → PrinterAdds (flat_map run_text whole) p w r y
told_closed {p} {q} {r} {w} {x} {y} begun run at cells whole is none is_open told adds =
    told_all begun at whole is_open (told_same begun at cells [] whole none told)
    (subst (λ (b : Option OpenRun). PrinterAdds (flat_map run_text (closed b at)) q x r y) (sym is)
    (adds_also (sym (append-nil (run_text (run_with run.from at run.look)))) adds))

pub told_finished : {p q : Printer} {w x : SinkSeen} (begun : Option OpenRun) (at : ℕ)
    (cells : List (Option CellLook)) (whole : List CellRun) → begun ≡ None → cells ≡ [] → IsOpen begun at
    → Told p w q x begun at cells whole → PrinterAdds (flat_map run_text whole) p w q x
told_finished {p} {q} {w} {x} begun at cells whole is none is_open told =
    told_all begun at whole is_open (told_same begun at cells [] whole none told)
    (subst (λ (b : Option OpenRun). PrinterAdds (flat_map run_text (closed b at)) q x q x) (sym is) adds_nothing)
