-- Words that don't begin with a hyphen are the files.
use Rattle.std.proofs.Common.{◌≡◌, ◌∙◌, ◌&&◌, ◌||◌, ◌==◌, ℕ, Bool, cond, true, false, not, refl, sym, ap, subst, List}
use Rattle.std.proofs.Common.{[], ◌∷◌, ◌++◌, map, codes, Option, Some, None, append_assoc}
use Rattle.std.specs.Prelude.{option_and_then}
use Rattle.std.specs.List.{fold, list_all}
use Rattle.std.specs.Option.{option_map_or}
use Rattle.std.specs.Str.{bytes_eq}
use Rattle.std.proofs.lemmas.Bool.{and_from, and_parts}
use Rattle.clap.specs.Lexer.{long_of, long_of_rest, short_of, short_of_rest, strip_byte}
use Rattle.clap.specs.Walk.{Held, Row, Rule, Step, Text, Waiting, Walk, after_step, finished, first_of, idle}
use Rattle.clap.specs.Walk.{long_or_other, nothing_held, plain_word, positional, short_or_plain, subcommand_or_other}
use Rattle.clap.specs.Walk.{trailing, walk, walk_from, walked}
use Rattle.clap.specs.Simple.{Shape, built, is_simple}
use Rattle.clap.specs.Takes.{bundle_passes, default_passes, flag_word_passes, is_valid, other_passes, settle_passes}
use Rattle.clap.specs.Takes.{step_passes, takes, turn_passes, walk_passes}
use Rattle.clap.specs.declared.builder.value_parser.Reading.TheVariants as reading
use Rattle.clap.specs.declared.parser.matches.ValueSource.TheVariants.{CommandLine}
use Rattle.clap.proofs.TakesLemmas.{leaf_takes}
use Rattle.tx_words.specs.declared.asked.Source.{Source}
use Rattle.tx_words.specs.declared.asked.Source.TheVariants.{Files, Generated}
use Rattle.tx_words.specs.Words.{Ask, Generates, IsSource, MayOpen, RowsAsk, is_generator, named_file, styles_in, tmx}
use Rattle.tx_words.specs.Plain.{is_plain_word}

abbrev shape : Shape
shape = (built tmx).top

abbrev rules : List Rule
rules = (built tmx).top.rules

-- ---- one word

plain_facts : (word : Text) → is_plain_word word ≡ true
    → (bytes_eq word (45 ∷ 45 ∷ []) ≡ false) × (long_of word ≡ None) × (short_of word ≡ None)
plain_facts [] e = (refl, refl, refl)
plain_facts (b ∷ bs) e = go (b == 45) e
  where
    go : (c : Bool) → not c ≡ true
        → ((c && bytes_eq bs (45 ∷ [])) ≡ false)
        × (option_and_then long_of_rest (option_and_then (strip_byte 45) (cond c (Some bs) None)) ≡ None)
        × (option_and_then short_of_rest (cond c (Some bs) None) ≡ None)
    go true e = absurd cc
    go false e = (refl, refl, refl)

met_plain : (waiting : Waiting) (position : ℕ) (word : Text) (h : Held) → is_plain_word word ≡ true
    → subcommand_or_other rules None waiting position word h ≡ plain_word rules waiting word h
met_plain waiting position word h e =
    let f = plain_facts word e in
    ap (λ (b : Bool). cond b (h, trailing position) (long_or_other rules waiting word (long_of word) h)) f.0
    ∙ ap (λ (o : Option (Text × Option Text)). long_or_other rules waiting word o h) f.1
    ∙ ap (λ (o : Option Text). short_or_plain rules waiting word o h) f.2

passes_plain : (word : Text) (h : Held) → is_plain_word word ≡ true → other_passes shape None word h ≡ true
passes_plain word h e =
    let f = plain_facts word e in
    ap (λ (b : Bool). b || flag_word_passes rules false (long_of word) word h) f.0
    ∙ ap (λ (o : Option (Text × Option Text)). flag_word_passes rules false o word h) f.1
    ∙ ap (λ (o : Option Text). option_map_or (λ flags. bundle_passes rules false flags h) o true) f.2

-- ---- the states of the walk

abbrev row : Text → List Text → Row
row id values =
    record { id = id; values = values; count = None; source = Some CommandLine; reading = reading.AsWritten }

abbrev style_rows : List Text → List Row
style_rows [] = []
style_rows (d ∷ ds) = row (codes "STYLE") (d ∷ ds) ∷ []

-- an argument with these values is pending
abbrev holds : List Row → Text → List Text → Held
holds rows id values = record { rows = rows; pending = Some (id, values); skip = 0 }

-- after the file
abbrev first : Text → Walk
first file = record {
  held = holds [] (codes "FILE") (file ∷ []);
  waiting = idle;
  position = 2;
  is_trailing = false;
  stopped = None;
}

-- after the file and some styles, of which the last is pending
abbrev many : Text → List Text → Text → Walk
many file before last = record {
  held = holds (row (codes "FILE") (file ∷ []) ∷ style_rows before) (codes "STYLE") (last ∷ []);
  waiting = positional;
  position = 2;
  is_trailing = false;
  stopped = None;
}

first_step : (file : Text) → is_plain_word file ≡ true → walked rules [] (walk_from nothing_held) file ≡ first file
unfolding walked
first_step file e =
    ap (λ (p : Held × Step). after_step rules file (walk_from nothing_held) p.0 p.1)
    (met_plain idle 1 file nothing_held e)

second_step : (file word : Text) → is_plain_word word ≡ true → walked rules [] (first file) word ≡ many file [] word
unfolding walked
second_step file word e =
    ap (λ (p : Held × Step). after_step rules word (first file) p.0 p.1) (met_plain idle 2 word (first file).held e)

next_step : (file : Text) (before : List Text) (last word : Text) → is_plain_word word ≡ true
    → walked rules [] (many file before last) word ≡ many file (before ++ last ∷ []) word
unfolding walked
next_step file [] last word e =
    ap (λ (p : Held × Step). after_step rules word (many file [] last) p.0 p.1)
    (met_plain positional 2 word (many file [] last).held e)
next_step file (d ∷ ds) last word e =
    ap (λ (p : Held × Step). after_step rules word (many file (d ∷ ds) last) p.0 p.1)
    (met_plain positional 2 word (many file (d ∷ ds) last).held e)

first_turn : (file : Text) → is_plain_word file ≡ true → turn_passes shape [] (walk_from nothing_held) file ≡ true
first_turn file e =
    and_from _ _ (passes_plain file nothing_held e)
    (ap (λ (p : Held × Step). step_passes shape 1 p.0 p.1) (met_plain idle 1 file nothing_held e))

second_turn : (file word : Text) → is_plain_word word ≡ true → turn_passes shape [] (first file) word ≡ true
second_turn file word e =
    and_from _ _ (passes_plain word (first file).held e)
    (ap (λ (p : Held × Step). step_passes shape 2 p.0 p.1) (met_plain idle 2 word (first file).held e))

next_turn : (file : Text) (before : List Text) (last word : Text) → is_plain_word word ≡ true
    → turn_passes shape [] (many file before last) word ≡ true
next_turn file before last word e =
    and_from _ _ (passes_plain word (many file before last).held e)
    (ap (λ (p : Held × Step). step_passes shape 2 p.0 p.1) (met_plain positional 2 word (many file before last).held e))

-- ---- all words

abbrev Ends : Text → List Text → Walk → Type 0
Ends file styles w = (before : List Text) × (last : Text) × (w ≡ many file before last) × (before ++ last ∷ [] ≡ styles)

styles_walk : (file : Text) (before : List Text) (last : Text) (rest : List Text) → list_all is_plain_word rest ≡ true
    → Ends file (before ++ last ∷ rest) (fold (walked rules []) (many file before last) rest)
styles_walk file before last [] e = (before, last, refl, refl)
styles_walk file before last (word ∷ rest) e =
    let k = and_parts _ _ e in
    let step = next_step file before last word k.0 in
    let end = styles_walk file (before ++ last ∷ []) word rest k.1 in
    let same = ap (λ (w : Walk). fold (walked rules []) w rest) step ∙ end.2 in
    (end.0, end.1, same, end.3 ∙ append_assoc before (last ∷ []) (word ∷ rest))

styles_pass : (file : Text) (before : List Text) (last : Text) (rest : List Text) → list_all is_plain_word rest ≡ true
    → walk_passes shape [] (many file before last) rest ≡ true
unfolding walk_passes
styles_pass file before last [] e = refl
styles_pass file before last (word ∷ rest) e =
    let k = and_parts _ _ e in
    and_from _ _ (next_turn file before last word k.0)
    (ap (λ (w : Walk). walk_passes shape [] w rest) (next_step file before last word k.0)
    ∙ styles_pass file (before ++ last ∷ []) word rest k.1)

-- the rows at the end
abbrev all_rows : Text → List Text → List Row
all_rows file styles = row (codes "FILE") (file ∷ []) ∷ style_rows styles

end_rows : (file : Text) (before : List Text) (last : Text)
    → finished rules (many file before last).held ≡ all_rows file (before ++ last ∷ [])
end_rows file [] last = refl
end_rows file (d ∷ ds) last = refl

rows_are : (file : Text) (styles : List Text) → list_all is_plain_word (file ∷ styles) ≡ true
    → finished rules (walk rules [] nothing_held (file ∷ styles)).held ≡ all_rows file styles
rows_are file [] e = ap (λ (w : Walk). finished rules w.held) (first_step file (and_parts _ _ e).0)
rows_are file (word ∷ rest) e =
    let k = and_parts _ _ e in
    let l = and_parts _ _ k.1 in
    let there = ap (λ (w : Walk). fold (walked rules []) w (word ∷ rest)) (first_step file k.0)
    ∙ ap (λ (w : Walk). fold (walked rules []) w rest) (second_step file word l.0) in
    let end = styles_walk file [] word rest l.1 in
    ap (λ (w : Walk). finished rules w.held) (there ∙ end.2) ∙ end_rows file end.0 end.1
    ∙ ap (λ (xs : List Text). all_rows file xs) end.3

settles : (file : Text) (styles : List Text) → list_all is_plain_word (file ∷ styles) ≡ true
    → settle_passes rules false (walk rules [] nothing_held (file ∷ styles)).held ≡ true
settles file [] e = ap (λ (w : Walk). settle_passes rules false w.held) (first_step file (and_parts _ _ e).0)
settles file (word ∷ rest) e =
    let k = and_parts _ _ e in
    let l = and_parts _ _ k.1 in
    let there = ap (λ (w : Walk). fold (walked rules []) w (word ∷ rest)) (first_step file k.0)
    ∙ ap (λ (w : Walk). fold (walked rules []) w rest) (second_step file word l.0) in
    let end = styles_walk file [] word rest l.1 in
    ap (λ (w : Walk). settle_passes rules false w.held) (there ∙ end.2)

walks : (file : Text) (styles : List Text) → list_all is_plain_word (file ∷ styles) ≡ true
    → walk_passes shape [] (walk_from nothing_held) (file ∷ styles) ≡ true
unfolding walk_passes
walks file [] e = and_from _ _ (first_turn file (and_parts _ _ e).0) refl
walks file (word ∷ rest) e =
    let k = and_parts _ _ e in
    let l = and_parts _ _ k.1 in
    and_from _ _ (first_turn file k.0) (ap (λ (w : Walk). walk_passes shape [] w (word ∷ rest)) (first_step file k.0)
    ∙ and_from _ _ (second_turn file word l.0)
    (ap (λ (w : Walk). walk_passes shape [] w rest) (second_step file word l.0) ∙ styles_pass file [] word rest l.1))

valid : (file : Text) (styles : List Text) → is_valid shape (all_rows file styles) false ≡ true
valid file [] = refl
valid file (s ∷ styles) = refl

plain_taken : (program file : Text) (styles : List Text) → list_all is_plain_word (file ∷ styles) ≡ true
    → takes tmx (program ∷ file ∷ styles) ≡ true
plain_taken program file styles e =
    let simple : is_simple tmx ≡ true = refl in
    let defaults : list_all default_passes rules ≡ true = refl in
    and_from _ _ simple (leaf_takes (built tmx) nothing_held (file ∷ styles) refl
    (and_from _ _ (walks file styles e)
    (and_from _ _ (settles file styles e)
    (and_from _ _ defaults (ap (λ (rows : List Row). is_valid shape rows false) (rows_are file styles e)
    ∙ valid file styles)))))

rows_source : (file : Text) (styles : List Text) (source : Source) → IsSource (Some file) styles source
    → IsSource (first_of (codes "FILE") (all_rows file styles)) (styles_in (all_rows file styles)) source
rows_source file [] source h = h
rows_source file (s ∷ styles) source h = h

no_option : (id : Text) (file : Text) (styles : List Text) → bytes_eq (codes "FILE") id ≡ false
    → bytes_eq (codes "STYLE") id ≡ false → first_of id (all_rows file styles) ≡ None
no_option id file [] x y = rw x refl
no_option id file (s ∷ styles) x y = rw (x, y) refl

-- what they ask for, on pages of the usual size
rows_ask : (file : Text) (styles : List Text) (source : Source) → IsSource (Some file) styles source
    → RowsAsk (all_rows file styles) 80 24 source
rows_ask file styles source h = record {
  wide = rw (no_option (codes "width") file styles refl refl) refl;
  high = rw (no_option (codes "height") file styles refl refl) refl;
  each = rows_source file styles source h;
}

-- words that don't begin with a hyphen, after the program's name, are the document's and those of styles
source_ask : (program file : Text) (styles : List Text) (source : Source)
    → list_all is_plain_word (file ∷ styles) ≡ true → IsSource (Some file) styles source
    → Ask (program ∷ file ∷ styles) 80 24 source
source_ask program file styles source e h = record {
  taken = plain_taken program file styles e;
  found = subst (λ (r : List Row). RowsAsk r 80 24 source) (sym (rows_are file styles e))
      (rows_ask file styles source h);
}

pub plain_ask : (program file : Text) (styles : List Text) → list_all is_plain_word (file ∷ styles) ≡ true
    → is_generator file ≡ false → MayOpen (map named_file (file ∷ styles))
    → Ask (program ∷ file ∷ styles) 80 24 (Files (map named_file (file ∷ styles)))
plain_ask program file styles e files fit =
    source_ask program file styles (Files (map named_file (file ∷ styles))) e (files, refl, fit)

pub generated_ask : (program word : Text) (number count : ℕ) → Generates word number count
    → Ask (program ∷ word ∷ []) 80 24 (Generated number count)
generated_ask program word number count g =
    source_ask program word [] (Generated number count) (ap (λ w. list_all is_plain_word (w ∷ [])) g.parts) (g, refl)
