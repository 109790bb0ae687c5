-- The scan follows the machine without bounds.
use Rattle.std.proofs.Common.{◌≡◌, ℕ, zero, suc, ◌+◌, Bool, true, false, ltb, ◌&&◌, List, [], ◌∷◌, ◌++◌, length, Option}
use Rattle.std.proofs.Common.{Some, None, is_some, refl, sym, ap, ◌∙◌, length-append, add-one}
use Rattle.tx_tree.specs.declared.texts.TextPlace.{TextPlace}
use Rattle.tx_tree.specs.declared.texts.TextPlace.TheVariants.{Between as BetweenItems, InSymbol}
use Rattle.tx_tree.specs.TextScan.{text_step, text_run, is_text, is_between, begins_text}
use Rattle.tx_tree.specs.WideTree.{WideTree, leaf}
use Rattle.tx_tree.proofs.Scanning.{text_run-append}
use Rattle.tx_scm.specs.declared.kinds.Kind.{Kind}
use Rattle.tx_scm.specs.declared.kinds.Kind.TheVariants.{White, Opens, Closes, Quote, Backslash, Letter, Other}
use Rattle.tx_scm.specs.declared.spots.Spot.{Spot}
use Rattle.tx_scm.specs.declared.spots.Spot.TheVariants.{Between, Opened, Naming, Escaping, Whole}
use Rattle.tx_scm.specs.Kinds.{kind_of}
use Rattle.tx_scm.specs.Machine as machine
use Rattle.tx_scm.specs.Machine.{Open, State, wide, between, opened, naming, texting, escaping, whole, failed, put_tree}
use Rattle.tx_scm.specs.Machine.{node_of, with_bracket, step_between, step_opened, step_naming, step_texting}
use Rattle.tx_scm.specs.Machine.{step_escaping}
use Rattle.tx_scm.specs.Machine.{step_whole, run}
use Rattle.tx_scm.specs.Spots.{after_tree, closed, only_if, between_step, opened_step, naming_step, in_text, lengthened}
use Rattle.tx_scm.specs.Spots.{texting_step, escaping_step, whole_step, step, spots}
use Rattle.tx_scm.proofs.ByteKinds.{is_quote_kind, is_backslash_kind}

-- in an escape, where it can be ended
abbrev pub in_escape : Option TextPlace → ℕ → Option Spot
in_escape None depth = None
in_escape (Some place) depth = only_if (is_some (text_step place 34)) (Escaping place depth)

abbrev pub place_of : List ℕ → Option TextPlace
place_of text = text_run (Some BetweenItems) text

-- where the scan is when the machine is in a state
abbrev pub spot_of : State → Option Spot
spot_of (between opens) = Some (Between (length opens))
spot_of (opened opens) = Some (Opened (length opens))
spot_of (naming label opens) = Some (Naming (length label) (length opens))
spot_of (texting text opens) = in_text (place_of text) (length opens)
spot_of (escaping text opens) = in_escape (place_of text) (length opens)
spot_of (whole t) = Some Whole
spot_of failed = None

abbrev pub next : Option Spot → Kind → ℕ → Option Spot
next None k b = None
next (Some s) k b = step s k b

-- ---- trees and brackets

put_spot : (t : WideTree) (opens : List Open) → spot_of (put_tree t opens) ≡ Some (after_tree (length opens))
put_spot t [] = refl
put_spot t (o ∷ opens) = refl

closed_spot : (opens : List Open) → spot_of (machine.closed wide opens) ≡ closed (length opens)
closed_spot [] = refl
closed_spot (o ∷ opens) = put_spot (node_of o) opens

between_spot : (k : Kind) (opens : List Open) → spot_of (step_between wide opens k) ≡ between_step (length opens) k
unfolding step_between between_step
between_spot Closes opens = closed_spot opens
between_spot _ opens = refl

opened_spot : (k : Kind) (b : ℕ) (opens : List Open) → spot_of (step_opened opens k b) ≡ opened_step (length opens) k
unfolding step_opened opened_step
opened_spot White b opens = refl
opened_spot Letter b opens = refl
opened_spot _ b opens = refl

only_spot : (c : Bool) (s : State) (t : Spot) → spot_of s ≡ Some t → spot_of (machine.only_if c s) ≡ only_if c t
only_spot true s t e = e
only_spot false s t e = refl

naming_spot : (k : Kind) (b : ℕ) (label : List ℕ) (opens : List Open)
    → spot_of (step_naming wide label opens k b) ≡ naming_step (length label) (length opens) k
unfolding step_naming naming_step
naming_spot Letter b label opens =
    only_spot (ltb (length label) 64) (naming (label ++ b ∷ []) opens) (Naming (length label + 1) (length opens))
    (ap (λ m. Some (Naming m (length opens))) (length-append label (b ∷ [])))
naming_spot k b label opens =
    between_spot k (with_bracket label opens) ∙ ap (λ m. between_step m k) (sym (add-one (length opens)))

-- ---- strings

begun_spot : (p : Option TextPlace) (text : List ℕ) (opens : List Open) → place_of text ≡ p
    → spot_of (machine.only_if (is_some p) (texting text opens)) ≡ in_text p (length opens)
begun_spot None text opens e = refl
begun_spot (Some p) text opens e = ap (λ p. in_text p (length opens)) e

abbrev pub one_more : Option TextPlace → ℕ → Option TextPlace
one_more None b = None
one_more (Some p) b = text_step p b

one_run : (p : Option TextPlace) (b : ℕ) → text_run p (b ∷ []) ≡ one_more p b
one_run None b = refl
one_run (Some p) b = nothing (text_step p b)
  where
    nothing : (q : Option TextPlace) → text_run q [] ≡ q
    nothing None = refl
    nothing (Some q) = refl

pub place_more : (text : List ℕ) (b : ℕ) → place_of (text ++ b ∷ []) ≡ one_more (place_of text) b
place_more text b = text_run-append text (b ∷ []) (Some BetweenItems) ∙ one_run (place_of text) b

lengthened_spot : (text : List ℕ) (opens : List Open) (b : ℕ)
    → spot_of (machine.lengthened wide text opens b) ≡ in_text (one_more (place_of text) b) (length opens)
unfolding begins_text
lengthened_spot text opens b = begun_spot (place_of (text ++ b ∷ [])) (text ++ b ∷ []) opens refl
    ∙ ap (λ p. in_text p (length opens)) (place_more text b)

ended_spot : (p : Option TextPlace) (t : WideTree) (opens : List Open)
    → spot_of (machine.only_if (is_between p) (put_tree t opens)) ≡ next (in_text p (length opens)) Quote 34
unfolding texting_step
ended_spot None t opens = refl
ended_spot (Some BetweenItems) t opens = put_spot t opens
ended_spot (Some (InSymbol n)) t opens = refl

longer_spot : (p : Option TextPlace) (d b : ℕ) (k : Kind) → ((q : TextPlace) → texting_step q d k b ≡ lengthened q d b)
    → in_text (one_more p b) d ≡ next (in_text p d) k b
longer_spot None d b k h = refl
longer_spot (Some p) d b k h = sym (h p)

quote_any : (p : Option TextPlace) (d b c : ℕ) → next (in_text p d) Quote b ≡ next (in_text p d) Quote c
unfolding texting_step
quote_any None d b c = refl
quote_any (Some p) d b c = refl

texting_spot : (k : Kind) (b : ℕ) (text : List ℕ) (opens : List Open)
    → spot_of (step_texting wide text opens k b) ≡ next (spot_of (texting text opens)) k b
unfolding step_texting texting_step is_text
texting_spot Quote b text opens =
    ended_spot (place_of text) (leaf text) opens ∙ quote_any (place_of text) (length opens) 34 b
texting_spot Backslash b text opens = escape_begins (place_of text)
  where
    escape_begins : (p : Option TextPlace) → in_escape p (length opens) ≡ next (in_text p (length opens)) Backslash b
    escape_begins None = refl
    escape_begins (Some p) = refl
texting_spot White b text opens =
    lengthened_spot text opens b ∙ longer_spot (place_of text) (length opens) b White (λ q. refl)
texting_spot Opens b text opens =
    lengthened_spot text opens b ∙ longer_spot (place_of text) (length opens) b Opens (λ q. refl)
texting_spot Closes b text opens =
    lengthened_spot text opens b ∙ longer_spot (place_of text) (length opens) b Closes (λ q. refl)
texting_spot Letter b text opens =
    lengthened_spot text opens b ∙ longer_spot (place_of text) (length opens) b Letter (λ q. refl)
texting_spot Other b text opens =
    lengthened_spot text opens b ∙ longer_spot (place_of text) (length opens) b Other (λ q. refl)

-- ---- escapes

-- a quote goes on with a text where a backslash does
same_escape : (p : TextPlace) → is_some (text_step p 92) ≡ is_some (text_step p 34)
unfolding text_step
same_escape BetweenItems = refl
same_escape (InSymbol n) = choice (ltb n 255)
  where
    choice : (c : Bool) → is_some (Rattle.std.proofs.Common.cond c (Some (InSymbol (n + 1))) None) ≡ is_some
        (Rattle.std.proofs.Common.cond c (Some (InSymbol (n + 1))) None)
    choice c = refl

escape_ends : (p : TextPlace) (d b : ℕ) (k : Kind) → is_some (text_step p b) ≡ is_some (text_step p 34)
    → escaping_step p d k b ≡ lengthened p d b
    → in_text (text_step p b) d ≡ next (only_if (is_some (text_step p 34)) (Escaping p d)) k b
escape_ends p d b k e h =
    ended (text_step p b) (is_some (text_step p 34)) refl e
  where
    ended : (q : Option TextPlace) (c : Bool) → text_step p b ≡ q → is_some q ≡ c
        → in_text q d ≡ next (only_if c (Escaping p d)) k b
    ended None true s f = absurd cc
    ended None false s f = refl
    ended (Some q) true s f = ap (λ q. in_text q d) (sym s) ∙ sym h
    ended (Some q) false s f = absurd cc

escape_fails : (c : Bool) (p : TextPlace) (d b : ℕ) (k : Kind) → escaping_step p d k b ≡ None
    → None ≡ next (only_if c (Escaping p d)) k b
escape_fails true p d b k e = sym e
escape_fails false p d b k e = refl

escaped_spot : (p : Option TextPlace) (d b : ℕ) (k : Kind)
    → ((q : TextPlace) → is_some (text_step q b) ≡ is_some (text_step q 34))
    → ((q : TextPlace) → escaping_step q d k b ≡ lengthened q d b)
    → in_text (one_more p b) d ≡ next (in_escape p d) k b
escaped_spot None d b k e h = refl
escaped_spot (Some p) d b k e h = escape_ends p d b k (e p) (h p)

unescaped_spot : (p : Option TextPlace) (d b : ℕ) (k : Kind) → ((q : TextPlace) → escaping_step q d k b ≡ None)
    → None ≡ next (in_escape p d) k b
unescaped_spot None d b k h = refl
unescaped_spot (Some p) d b k h = escape_fails (is_some (text_step p 34)) p d b k (h p)

escaping_spot : (k : Kind) (b : ℕ) (text : List ℕ) (opens : List Open) → kind_of b ≡ k
    → spot_of (step_escaping wide text opens k b) ≡ next (spot_of (escaping text opens)) k b
unfolding step_escaping escaping_step
escaping_spot Quote b text opens e =
    lengthened_spot text opens b
    ∙ escaped_spot (place_of text) (length opens) b Quote
    (λ q. ap (λ c. is_some (text_step q c)) (is_quote_kind b e)) (λ q. refl)
escaping_spot Backslash b text opens e =
    lengthened_spot text opens b
    ∙ escaped_spot (place_of text) (length opens) b Backslash
    (λ q. ap (λ c. is_some (text_step q c)) (is_backslash_kind b e) ∙ same_escape q) (λ q. refl)
escaping_spot White b text opens e = unescaped_spot (place_of text) (length opens) b White (λ q. refl)
escaping_spot Opens b text opens e = unescaped_spot (place_of text) (length opens) b Opens (λ q. refl)
escaping_spot Closes b text opens e = unescaped_spot (place_of text) (length opens) b Closes (λ q. refl)
escaping_spot Letter b text opens e = unescaped_spot (place_of text) (length opens) b Letter (λ q. refl)
escaping_spot Other b text opens e = unescaped_spot (place_of text) (length opens) b Other (λ q. refl)

-- ---- a byte, and bytes

whole_spot : (k : Kind) (t : WideTree) → spot_of (step_whole t k) ≡ whole_step k
unfolding step_whole
whole_spot White t = refl
whole_spot _ t = refl

step_spot : (s : State) (b : ℕ) → spot_of (machine.step wide s (kind_of b) b) ≡ next (spot_of s) (kind_of b) b
step_spot (between opens) b = between_spot (kind_of b) opens
step_spot (opened opens) b = opened_spot (kind_of b) b opens
step_spot (naming label opens) b = naming_spot (kind_of b) b label opens
step_spot (texting text opens) b = texting_spot (kind_of b) b text opens
step_spot (escaping text opens) b = escaping_spot (kind_of b) b text opens refl
step_spot (whole t) b = whole_spot (kind_of b) t
step_spot failed b = refl

pub spots_nothing : (s : Option Spot) → spots s [] ≡ s
spots_nothing None = refl
spots_nothing (Some s) = refl

pub spots_none : (x : List ℕ) → spots None x ≡ None
spots_none [] = refl
spots_none (b ∷ x) = refl

pub spots_more : (s : Option Spot) (b : ℕ) (x : List ℕ) → spots s (b ∷ x) ≡ spots (next s (kind_of b) b) x
spots_more None b x = sym (spots_none x)
spots_more (Some s) b x = refl

pub spots-append : (x y : List ℕ) (s : Option Spot) → spots s (x ++ y) ≡ spots (spots s x) y
spots-append [] y s = ap (λ s. spots s y) (sym (spots_nothing s))
spots-append (b ∷ x) y s = spots_more s b (x ++ y) ∙ spots-append x y (next s (kind_of b) b)
    ∙ ap (λ s. spots s y) (sym (spots_more s b x))

pub run_spots : (x : List ℕ) (s : State) → spot_of (run wide s x) ≡ spots (spot_of s) x
run_spots [] s = sym (spots_nothing (spot_of s))
run_spots (b ∷ x) s = run_spots x (machine.step wide s (kind_of b) b) ∙ ap (λ p. spots p x) (step_spot s b)
    ∙ sym (spots_more (spot_of s) b x)
