-- How a script ends whose lines were executed.
use Rattle.std.proofs.Common.{◌≡◌, ◌≢◌, ◌⊎◌, inl, inr, ◌<◌, ◌≤◌, ◌+◌, ℕ, Bool, true, false, List, [], ◌∷◌, ◌++◌, length}
use Rattle.std.proofs.Common.{take, drop, eqb, ◌-◌, refl, ap, sym, subst, ◌∙◌, Option, Some, None, Ok, Contains, IfSome}
use Rattle.std.proofs.Common.{append_assoc, length-append, arith}
use Rattle.std.specs.List.{flat_map, before_first}
use Rattle.std.specs.Io.KnownBytes.{prepend_known}
use Rattle.std.proofs.Math.Seq.{take-append-add, take-append_seam, drop-append_seam}
use Rattle.std.proofs.lemmas.List.{append-nil, take-append-drop}
use Rattle.std.proofs.lemmas.List.Elements.{All-append, All-cons, Contains-append_right}
use Rattle.std.proofs.lemmas.Bool.{cases_lt}
use Rattle.std.proofs.lemmas.Grind.{common_steps, flat_map-append}
use Rattle.tx_outside.proofs.Pieces.{append_known-then, prepend_known-then}
use Rattle.tx_outside.specs.Known.{AppendsPart}
use Rattle.tx_session.specs.declared.TheConstants.{MOST_SCRIPT}
use Rattle.tx_print.specs.Lines.{line}
use Rattle.tx_session.specs.Replies.{IsLineReply}
use Rattle.tx_session.specs.Worlds.{World, LineMark}
use Rattle.tx_session.specs.Scripts.{IsOneLine, HasEndedLines, AreLinesOf, Answered, before_quit, command_line, is_quit}
use Rattle.tx_session.specs.Runs.{EndedByQuit, TellsScript}
use Rattle.tx_session.specs.declared.session.Next.{Next}
use Rattle.tx_session.specs.declared.session.Next.TheVariants as nexts
use Rattle.tx_session.specs.declared.kept_line.KeptLine.{KeptLine}
use Rattle.tx_session.specs.declared.script.Turn.{Turn}
use Rattle.tx_session.specs.declared.script.Turn.TheVariants as turns
use Rattle.tx_session.specs.declared.status.Status.{Status}
use Rattle.tx_session.specs.declared.status.Status.TheVariants as statuses
use Rattle.tx_session.specs.Keeping.{StandsAnswered, StandsWith, IsTurned, TurnLeadsTo}
use Rattle.tx_session.specs.Playing.{HasPlayed, IsCutOff, IsEnd}
use Rattle.tx_session.proofs.Quits.{replied_goes_on}
use Rattle.tx_session.proofs.Standing.{line_goes_on, line_ends, no_lines, answered_next}

-- a byte and a list of lines, from the left
abbrev Lined : List ℕ → Type 0
Lined bytes = (ended : List (List ℕ)) × (rest : List ℕ) × HasEndedLines bytes ended rest

joined : (e r l x front more : List ℕ) → front ≡ e ++ r → more ≡ l ++ x
    → front ++ 10 ∷ more ≡ (e ++ ((r ++ 10 ∷ []) ++ l)) ++ x
joined e r l x front more h k = grind (arith, common_steps)

-- lines side by side
pub lines_joined : (front more : List ℕ) (ended later : List (List ℕ)) (rest last : List ℕ)
    → HasEndedLines front ended rest
    → HasEndedLines more later last → HasEndedLines (front ++ 10 ∷ more) (ended ++ rest ∷ later) last
lines_joined front more ended later rest last h k =
    record {
      whole = joined (flat_map line ended) rest (flat_map line later) last front more h.whole k.whole
          ∙ ap (λ x. x ++ last) (sym (flat_map-append line ended (rest ∷ later)));
      each = All-append IsOneLine ended (rest ∷ later) h.each (All-cons IsOneLine rest later h.last k.each);
      last = k.last;
    }

-- all bytes have lines
pub lined_more : (bytes front : List ℕ) → Lined front → Lined (front ++ bytes)
lined_more [] front l = subst Lined (sym (append-nil front)) l
lined_more (b ∷ bytes) front l =
    subst Lined (append_assoc front (b ∷ []) bytes)
    (lined_more bytes (front ++ b ∷ []) (one_more b front (eqb b 10) refl l))
  where
    one_more : (b : ℕ) (front : List ℕ) (t : Bool) → t ≡ eqb b 10 → Lined front → Lined (front ++ b ∷ [])
    one_more b front true e l =
        subst (λ x. Lined (front ++ x ∷ [])) (grind arith) (l.0 ++ l.1 ∷ [], [], line_ends front l.0 l.1 l.2)
    one_more b front false e l = (l.0, l.1 ++ b ∷ [], line_goes_on front l.0 l.1 b (grind arith) l.2)

pub lined : (bytes : List ℕ) → Lined bytes
lined bytes = lined_more bytes [] ([], [], no_lines)

take_next : (k b : ℕ) (xs : List ℕ) → take (k + 1) (b ∷ xs) ≡ b ∷ take k xs
take_next k b xs = grind (arith, common_steps)

take_through : (m : ℕ) (upto more : List ℕ) → length upto < m
    → take m (upto ++ 10 ∷ more) ≡ upto ++ 10 ∷ take (m - (length upto + 1)) more
take_through m upto more within =
    let e : m ≡ length upto + ((m - (length upto + 1)) + 1) = omega arith in
    ap (λ n. take n (upto ++ 10 ∷ more)) e ∙ take-append-add upto (10 ∷ more) ((m - (length upto + 1)) + 1)
    ∙ ap (λ x. upto ++ x) (take_next (m - (length upto + 1)) 10 more)

front_through : (script upto more : List ℕ) → script ≡ upto ++ 10 ∷ more → length upto < MOST_SCRIPT
    → take MOST_SCRIPT script ≡ upto ++ 10 ∷ take (MOST_SCRIPT - (length upto + 1)) more
front_through script upto more e within = ap (take MOST_SCRIPT) e ∙ take_through MOST_SCRIPT upto more within

-- where a line ends within the limit, it is one of the script's lines
pub lines_through : (script upto more : List ℕ) (ended : List (List ℕ)) (rest : List ℕ) → script ≡ upto ++ 10 ∷ more
    → HasEndedLines upto ended rest → length upto < MOST_SCRIPT
    → (later : List (List ℕ)) × AreLinesOf script (ended ++ rest ∷ later)
lines_through script upto more ended rest e h within =
    elim (cases script) [ inl short ↦ short_one short | inr long ↦ long_one long ]
  where
    cases : (script : List ℕ) → (length script ≤ MOST_SCRIPT) ⊎ (MOST_SCRIPT < length script)
    cases script = elim (cases_lt MOST_SCRIPT (length script)) [ inl long ↦ inr long | inr short ↦ inl short ]

    short_one : length script ≤ MOST_SCRIPT → (later : List (List ℕ)) × AreLinesOf script (ended ++ rest ∷ later)
    short_one short =
        let l = lined more in (
          l.0 ++ l.1 ∷ [],
          inl (
            short,
            (
              ended ++ rest ∷ l.0,
              l.1,
              subst (λ s. HasEndedLines s (ended ++ rest ∷ l.0) l.1) (sym e)
                  (lines_joined upto more ended l.0 rest l.1 h l.2),
              sym (append_assoc ended (rest ∷ l.0) (l.1 ∷ [])),
            ),
          ),
        )

    long_one : MOST_SCRIPT < length script → (later : List (List ℕ)) × AreLinesOf script (ended ++ rest ∷ later)
    long_one long =
        let l = lined (take (MOST_SCRIPT - (length upto + 1)) more) in (
          l.0,
          inr (
            long,
            (
              l.1,
              subst (λ s. HasEndedLines s (ended ++ rest ∷ l.0) l.1) (sym (front_through script upto more e within))
                  (lines_joined upto _ ended l.0 rest l.1 h l.2),
            ),
          ),
        )

module _ {A : Type 0} (p : A → Bool) where
  before_next : (x : A) (xs : List A) → p x ≡ false → before_first p (x ∷ xs) ≡ x ∷ before_first p xs
  before_next x xs e = grind (arith, common_steps)

  before_stop : (x : A) (xs : List A) → p x ≡ true → before_first p (x ∷ xs) ≡ []
  before_stop x xs e = grind (arith, common_steps)

-- lines that were executed are none of them `quit`
pub none_quits : (seen last : World) (lines : List (List ℕ)) (marks : List LineMark) (text : List ℕ)
    → Answered seen lines marks last text → before_quit lines ≡ lines
none_quits seen last [] marks text a = refl
none_quits seen last (l ∷ lines) [] text a = absurd a
none_quits seen last (l ∷ lines) (m ∷ marks) text a =
    let goes : is_quit l ≡ false = replied_goes_on seen a.0 (command_line l) m a.1 a.3 in
    before_next is_quit l lines goes ∙ ap (λ x. l ∷ x) (none_quits a.0 last lines marks a.2 a.4)

-- the lines before the first `quit`
pub up_to_quit : (seen last : World) (lines later : List (List ℕ)) (quitting : List ℕ) (marks : List LineMark)
    (text : List ℕ) → Answered seen lines marks last text → is_quit quitting ≡ true
    → before_quit (lines ++ quitting ∷ later) ≡ lines
up_to_quit seen last [] later quitting marks text a q = before_stop is_quit quitting later q
up_to_quit seen last (l ∷ lines) later quitting [] text a q = absurd a
up_to_quit seen last (l ∷ lines) later quitting (m ∷ marks) text a q =
    let goes : is_quit l ≡ false = replied_goes_on seen a.0 (command_line l) m a.1 a.3 in
    before_next is_quit l (lines ++ quitting ∷ later) goes
    ∙ ap (λ x. l ∷ x) (up_to_quit a.0 last lines later quitting marks a.2 a.4 q)

whole_rest : (script : List ℕ) (rest : Option (List ℕ)) → IfSome rest (λ bytes. bytes ≡ [])
    → IfSome rest (λ bytes. (bytes ≡ []) ⊎ EndedByQuit script bytes)
whole_rest script None e = tt
whole_rest script (Some bytes) e = inl e

-- the script has ended, and its last line was executed
pub whole_end : (start seen next : World) (told rest before between after : Option (List ℕ)) (script unended : List ℕ)
    (n : Next) → TellsScript told script → length script ≤ MOST_SCRIPT → IfSome rest (λ bytes. bytes ≡ [])
    → StandsAnswered start before script unended seen between → IsTurned (Ok n) seen unended next between after
    → HasPlayed start next told rest statuses.Ok before after
whole_end start seen next told rest before between after script unended nexts.Go tells short end s t =
    let a = answered_next start s.ended s.marks seen next s.replies t.1 unended t.0 s.answered t.2 in
    record {
      script = script;
      marks = s.marks ++ t.0 ∷ [];
      replies = s.replies ++ t.1;
      tells = tells;
      played = record {
        lines = s.ended ++ unended ∷ [];
        are = inl (short, (s.ended, unended, s.lines, refl));
        readable = inl short;
        answered = subst (λ ls. Answered start ls (s.marks ++ t.0 ∷ []) next (s.replies ++ t.1))
            (sym (none_quits start next (s.ended ++ unended ∷ []) (s.marks ++ t.0 ∷ []) (s.replies ++ t.1) a)) a;
        left = whole_rest script rest end;
      };
      written = append_known-then before between after s.replies t.1 s.written t.3;
    }
whole_end start seen next told rest before between after script unended nexts.Quit tells short end s t =
    subst (λ w. HasPlayed start w told rest statuses.Ok before after) (sym t.1)
    (record {
      script = script;
      marks = s.marks;
      replies = s.replies;
      tells = tells;
      played = record {
        lines = s.ended ++ unended ∷ [];
        are = inl (short, (s.ended, unended, s.lines, refl));
        readable = inl short;
        answered = subst (λ ls. Answered start ls s.marks seen s.replies)
            (sym (up_to_quit start seen s.ended [] unended s.marks s.replies s.answered t.0)) s.answered;
        left = whole_rest script rest end;
      };
      written = t.2 ∙ s.written;
    })

-- the script has ended, and the reply to its last line is written in part
pub whole_cut : (start seen next : World) (told before between after : Option (List ℕ)) (script unended : List ℕ)
    → TellsScript told script → length script ≤ MOST_SCRIPT
    → StandsAnswered start before script unended seen between
    → ((mark : LineMark) × (reply : List ℕ) × IsLineReply seen (command_line unended) mark next reply
    × AppendsPart reply between after) → IsCutOff start next told before after
whole_cut start seen next told before between after script unended tells short s r =
    record {
      script = script;
      done = s.replies;
      reply = r.1;
      tells = tells;
      behind = record {
        lines = s.ended ++ unended ∷ [];
        before = s.ended;
        behind = [];
        one = unended;
        marks = s.marks;
        seen = seen;
        mark = r.0;
        are = inl (short, (s.ended, unended, s.lines, refl));
        parts = refl;
        answered = s.answered;
        replied = r.2;
      };
      part = subst (λ b. AppendsPart r.1 b after) s.written r.3;
    }

-- what the input held is what was taken and what it still holds
abbrev pub or_empty : Option (List ℕ) → List ℕ
or_empty None = []
or_empty (Some bytes) = bytes

pub tells_both : (told rest : Option (List ℕ)) (taken : List ℕ) → told ≡ prepend_known taken rest
    → TellsScript told (taken ++ or_empty rest)
tells_both told None taken e = subst (λ t. TellsScript t (taken ++ [])) (sym e) tt
tells_both told (Some bytes) taken e = subst (λ t. TellsScript t (taken ++ bytes)) (sym e) refl

pub rest_dropped : (rest : Option (List ℕ)) (taken : List ℕ)
    → IfSome rest (λ bytes. bytes ≡ drop (length taken) (taken ++ or_empty rest))
rest_dropped None taken = tt
rest_dropped (Some bytes) taken = sym (drop-append_seam taken bytes)

-- the input failed
pub failed_end : (start seen : World) (told rest before after : Option (List ℕ)) (taken unended : List ℕ)
    → told ≡ prepend_known taken rest → length taken ≤ MOST_SCRIPT
    → StandsAnswered start before taken unended seen after
    → HasPlayed start seen told rest statuses.InputFault before after
failed_end start seen told rest before after taken unended e within s =
    record {
      script = taken ++ or_empty rest;
      marks = s.marks;
      replies = s.replies;
      tells = tells_both told rest taken e;
      played = record {
        taken = length taken;
        ended = s.ended;
        unended = unended;
        there = grind (arith, common_steps);
        within = within;
        left = rest_dropped rest taken;
        lines = subst (λ bs. HasEndedLines bs s.ended unended) (sym (take-append_seam taken (or_empty rest))) s.lines;
        answered = s.answered;
      };
      written = s.written;
    }

-- more was taken than a script has
long_rest : (script taken front : List ℕ) (rest : Option (List ℕ)) → script ≡ taken ++ (front ++ or_empty rest)
    → length taken ≡ MOST_SCRIPT → 0 < length front
    → IfSome rest (λ bytes. (n : ℕ) × (MOST_SCRIPT < n) × (n ≤ length script) × (bytes ≡ drop n script))
long_rest script taken front None e full some = tt
long_rest script taken front (Some bytes) e full some =
    let whole : script ≡ (taken ++ front) ++ bytes = e ∙ sym (append_assoc taken front bytes) in (
      length (taken ++ front),
      omega (arith, length-append taken front, full, some),
      omega (arith, ap length whole, length-append (taken ++ front) bytes),
      sym (drop-append_seam (taken ++ front) bytes) ∙ ap (drop (length (taken ++ front))) (sym whole),
    )

pub long_end : (start seen : World) (told rest before after : Option (List ℕ)) (script taken front unended : List ℕ)
    → TellsScript told script → script ≡ taken ++ (front ++ or_empty rest) → length taken ≡ MOST_SCRIPT
    → 0 < length front
    → StandsAnswered start before taken unended seen after
    → HasPlayed start seen told rest statuses.ScriptLong before after
long_end start seen told rest before after script taken front unended tells e full some s =
    let long : MOST_SCRIPT < length script =
    omega (arith, ap length e, length-append taken (front ++ or_empty rest), length-append front (or_empty rest)) in
    record {
      script = script;
      marks = s.marks;
      replies = s.replies;
      tells = tells;
      played = record {
        lines = s.ended;
        are = inr (
          long,
          (
            unended,
            subst (λ bs. HasEndedLines bs s.ended unended)
                (sym (ap (take MOST_SCRIPT) e ∙ ap (λ n. take n (taken ++ (front ++ or_empty rest))) (sym full)
                ∙ take-append_seam taken (front ++ or_empty rest))) s.lines,
          ),
        );
        long = long;
        answered = s.answered;
        left = long_rest script taken front rest e full some;
      };
      written = s.written;
    }

abbrev pub status_of_turn : Turn → Status
status_of_turn turns.Go = statuses.Ok
status_of_turn turns.Quit = statuses.Ok
status_of_turn turns.NoMemory = statuses.NoMemory
status_of_turn turns.OutputFailed = statuses.OutputFault

shorter : (bytes upto : List ℕ) (b : ℕ) (later : List ℕ) → bytes ≡ upto ++ b ∷ later → length bytes ≤ MOST_SCRIPT
    → length upto < MOST_SCRIPT
shorter bytes upto b later is within = omega (arith, within, ap length is, length-append upto (b ∷ later))

holds : (lines : List (List ℕ)) (one : List ℕ) (later : List (List ℕ)) → Contains (lines ++ one ∷ later) one
holds lines one later = Contains-append_right lines (one ∷ later) one (0, grind arith, refl)

quit_rest : (script upto later more unended : List ℕ) (ended : List (List ℕ)) (rest : Option (List ℕ))
    → script ≡ upto ++ 10 ∷ (later ++ more) → HasEndedLines upto ended unended → is_quit unended ≡ true
    → ((between : List ℕ) × (more ≡ between ++ or_empty rest))
    → IfSome rest (λ bytes. (bytes ≡ []) ⊎ EndedByQuit script bytes)
quit_rest script upto later more unended ended None e h q left = tt
quit_rest script upto later more unended ended (Some bytes) e h q left =
    inr (record {
      upto = upto;
      between = later ++ left.0;
      quitting = unended;
      ended = ended;
      parts = e ∙ ap (λ x. upto ++ 10 ∷ x) (ap (λ x. later ++ x) left.1 ∙ sym (append_assoc later left.0 bytes));
      lines = h;
      quits = q;
    })

kept_rest : (later more : List ℕ) (rest : Option (List ℕ)) → ((between : List ℕ) × (more ≡ between ++ or_empty rest))
    → IfSome rest (λ bytes. (between : List ℕ) × (later ++ more ≡ between ++ bytes))
kept_rest later more None left = tt
kept_rest later more (Some bytes) left =
    (later ++ left.0, ap (λ x. later ++ x) left.1 ∙ sym (append_assoc later left.0 bytes))

-- within what was taken: `quit`, out of memory, or a fault of the output
pub stopped : (turn : Turn) (start seen : World) (told rest before after : Option (List ℕ)) (script bytes more : List ℕ)
    (kept : KeptLine) → turn ≢ turns.Go → TellsScript told script → script ≡ bytes ++ more
    → length bytes ≤ MOST_SCRIPT → ((between : List ℕ) × (more ≡ between ++ or_empty rest))
    → TurnLeadsTo turn start before bytes seen kept after
    → IsEnd (status_of_turn turn) start seen told rest before after
stopped turns.Go start seen told rest before after script bytes more kept other tells e within left l =
    absurd (other refl)
stopped turns.Quit start seen told rest before after script bytes more kept other tells e within left
    (upto, later, unended, is, s, q) =
    let whole : script ≡ upto ++ 10 ∷ (later ++ more) = e ∙ ap (λ x. x ++ more) is
    ∙ append_assoc upto (10 ∷ later) more in
    let through = lines_through script upto (later ++ more) s.ended unended whole s.lines
    (shorter bytes upto 10 later is within) in
    record {
      script = script;
      marks = s.marks;
      replies = s.replies;
      tells = tells;
      played = record {
        lines = s.ended ++ unended ∷ through.0;
        are = through.1;
        readable = inr (s.ended ++ unended ∷ through.0, through.1, (unended, holds s.ended unended through.0, q));
        answered = subst (λ ls. Answered start ls s.marks seen s.replies)
            (sym (up_to_quit start seen s.ended through.0 unended s.marks s.replies s.answered q)) s.answered;
        left = quit_rest script upto later more unended s.ended rest whole s.lines q left;
      };
      written = s.written;
    }
stopped turns.NoMemory start seen told rest before after script bytes more kept other tells e within left
    (upto, later, unended, b, is, line, short, s) =
    record {
      script = script;
      marks = s.marks;
      replies = s.replies;
      tells = tells;
      played = record {
        upto = upto;
        more = later ++ more;
        byte = b;
        ended = s.ended;
        unended = unended;
        parts = e ∙ ap (λ x. x ++ more) is ∙ append_assoc upto (b ∷ later) more;
        inside = line;
        short = short;
        within = shorter bytes upto b later is within;
        lines = s.lines;
        answered = s.answered;
        left = kept_rest later more rest left;
      };
      written = s.written;
    }
stopped turns.OutputFailed start seen told rest before after script bytes more kept other tells e within left
    (upto, later, is, c) =
    let through = lines_through script upto (later ++ more) c.stands.ended c.rest
    (e ∙ ap (λ x. x ++ more) is ∙ append_assoc upto (10 ∷ later) more) c.stands.lines
    (shorter bytes upto 10 later is within) in
    record {
      script = script;
      done = c.stands.replies;
      reply = c.reply;
      tells = tells;
      behind = record {
        lines = c.stands.ended ++ c.rest ∷ through.0;
        before = c.stands.ended;
        behind = through.0;
        one = c.rest;
        marks = c.stands.marks;
        seen = c.seen;
        mark = c.mark;
        are = through.1;
        parts = refl;
        answered = c.stands.answered;
        replied = c.replied;
      };
      part = subst (λ b. AppendsPart c.reply b after) c.stands.written c.part;
    }

-- a read: its first bytes, and the rest of it
take_less : (into : List ℕ) (within count : ℕ) → within ≤ count → take within (take count into) ≡ take within into
take_less into within count le = grind (arith, common_steps)

take_parts : (into : List ℕ) (within count : ℕ) → within ≤ count
    → take count into ≡ take within into ++ drop within (take count into)
take_parts into within count le =
    sym (take-append-drop within (take count into))
    ∙ ap (λ x. x ++ drop within (take count into)) (take_less into within count le)

pub read_parts : (taken into tail : List ℕ) (within count : ℕ) → within ≤ count
    → (taken ++ take count into) ++ tail ≡ (taken ++ take within into) ++ (drop within (take count into) ++ tail)
read_parts taken into tail within count le =
    ap (λ x. (taken ++ x) ++ tail) (take_parts into within count le)
    ∙ ap (λ x. x ++ tail) (sym (append_assoc taken (take within into) (drop within (take count into))))
    ∙ append_assoc (taken ++ take within into) (drop within (take count into)) tail

pub read_within : (taken into : List ℕ) (within room : ℕ) → within ≤ room → length taken + room ≡ MOST_SCRIPT
    → length (taken ++ take within into) ≤ MOST_SCRIPT
read_within taken into within room le e = let short : length (take within into) ≤ within =
    grind (arith, common_steps) in omega (arith, length-append taken (take within into))

pub read_full : (taken into : List ℕ) (within room : ℕ) → within ≡ room → within ≤ length into
    → length taken + room ≡ MOST_SCRIPT → length (taken ++ take within into) ≡ MOST_SCRIPT
read_full taken into within room is le e = let short : length (take within into) ≡ within =
    grind (arith, common_steps) in omega (arith, length-append taken (take within into))

pub read_more : (into : List ℕ) (within count : ℕ) → within < count → count ≤ length into
    → 0 < length (drop within (take count into))
read_more into within count lt le = let some : length (drop within (take count into)) ≡ count - within =
    grind (arith, common_steps) in omega (arith, some, lt)

-- the end of a session within a read
pub stopped_in_read : (turn : Turn) (start seen : World) (told mid rest before after : Option (List ℕ))
    (taken into : List ℕ) (within count room : ℕ) (kept : KeptLine) → turn ≢ turns.Go
    → told ≡ prepend_known taken mid → mid ≡ prepend_known (take count into) rest → within ≤ count → within ≤ room
    → length taken + room ≡ MOST_SCRIPT
    → TurnLeadsTo turn start before (taken ++ take within into) seen kept after
    → IsEnd (status_of_turn turn) start seen told rest before after
stopped_in_read turn start seen told mid rest before after taken into within count room kept other first second part
    fits e l =
    stopped turn start seen told rest before after ((taken ++ take count into) ++ or_empty rest)
    (taken ++ take within into) (drop within (take count into) ++ or_empty rest) kept other
    (tells_both told rest (taken ++ take count into)
    (prepend_known-then told mid rest taken (take count into) first second))
    (read_parts taken into (or_empty rest) within count part) (read_within taken into within room fits e)
    (drop within (take count into), refl) l

pub long_read : (start seen : World) (told mid rest before after : Option (List ℕ)) (taken into : List ℕ)
    (within count room : ℕ) (kept : KeptLine)
    → told ≡ prepend_known taken mid → mid ≡ prepend_known (take count into) rest → within < count → within ≡ room
    → count ≤ length into → length taken + room ≡ MOST_SCRIPT
    → StandsWith start before (taken ++ take within into) seen kept after
    → HasPlayed start seen told rest statuses.ScriptLong before after
long_read start seen told mid rest before after taken into within count room kept first second part full le e s =
    long_end start seen told rest before after ((taken ++ take count into) ++ or_empty rest) (taken ++ take within into)
    (drop within (take count into)) s.rest
    (tells_both told rest (taken ++ take count into)
    (prepend_known-then told mid rest taken (take count into) first second))
    (read_parts taken into (or_empty rest) within count (omega (arith, part)))
    (read_full taken into within room full (omega (arith, part, le)) e) (read_more into within count part le)
    s.stands

-- the input is at its end
pub at_end : (told mid rest : Option (List ℕ)) (taken into : List ℕ) (count : ℕ) → count ≡ 0
    → told ≡ prepend_known taken mid → mid ≡ prepend_known (take count into) rest → IfSome mid (λ bytes. bytes ≡ [])
    → TellsScript told taken
at_end told None rest taken into count zero first second end = subst (λ t. TellsScript t taken) (sym first) tt
at_end told (Some bytes) rest taken into count zero first second end =
    subst (λ t. TellsScript t taken) (sym first) (ap (λ x. taken ++ x) end ∙ append-nil taken)

-- the loop goes on
pub read_on : (told mid rest : Option (List ℕ)) (taken into : List ℕ) (within count : ℕ) → count ≤ within
    → within ≤ count → told ≡ prepend_known taken mid → mid ≡ prepend_known (take count into) rest
    → told ≡ prepend_known (taken ++ take within into) rest
read_on told mid rest taken into within count le ge first second =
    let e : count ≡ within = omega (arith, le, ge) in
    prepend_known-then told mid rest taken (take within into) first
    (second ∙ ap (λ n. prepend_known (take n into) rest) e)

pub room_on : (taken into : List ℕ) (within room : ℕ) → within ≤ room → within ≤ length into
    → length taken + room ≡ MOST_SCRIPT → length (taken ++ take within into) + (room - within) ≡ MOST_SCRIPT
room_on taken into within room fits le e = let short : length (take within into) ≡ within =
    grind (arith, common_steps) in omega (arith, length-append taken (take within into))

pub count_on : (now before room within : ℕ) (into : List ℕ) → now ≤ before + length (take within into)
    → before + room ≤ MOST_SCRIPT → within ≤ room → now + (room - within) ≤ MOST_SCRIPT
count_on now before room within into le fits part = let short : length (take within into) ≤ within =
    grind (arith, common_steps) in omega (arith, short)

pub nothing_left : (mid rest : Option (List ℕ)) (into : List ℕ) (count : ℕ) → mid ≡ prepend_known (take count into) rest
    → IfSome mid (λ bytes. bytes ≡ []) → IfSome rest (λ bytes. bytes ≡ [])
nothing_left mid None into count e end = tt
nothing_left mid (Some bytes) into count e end =
    append_nothing (take count into) bytes (subst (λ m. IfSome m (λ bs. bs ≡ [])) e end)
  where
    append_nothing : (a b : List ℕ) → a ++ b ≡ [] → b ≡ []
    append_nothing [] b e = e
    append_nothing (x ∷ a) b e = cc
