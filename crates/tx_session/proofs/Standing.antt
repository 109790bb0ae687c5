-- Lines that have ended, one byte after the other.
use Rattle.std.proofs.Common.{◌≡◌, ◌≢◌, ℕ, List, [], ◌∷◌, ◌++◌, ◌<◌, ◌≤◌, ◌+◌, length, take, drop, slice_index_or}
use Rattle.std.proofs.Common.{refl, ap, sym, subst, ◌∙◌, Option, Result, Ok, Err, append_assoc, arith}
use Rattle.std.specs.List.{flat_map}
use Rattle.std.specs.Io.KnownBytes.{append_known}
use Rattle.std.proofs.lemmas.List.{append-nil, take-append-drop, take_all}
use Rattle.std.proofs.lemmas.List.Elements.{All-nil}
use Rattle.std.proofs.lemmas.Grind.{common_steps, flat_map-append}
use Rattle.tx_outside.specs.Known.{AppendsPart}
use Rattle.tx_outside.proofs.Pieces.{append_known-then}
use Rattle.tx_outside.specs.declared.faults.WriteFault.{WriteFault}
use Rattle.tx_session.specs.declared.session.Next.{Next}
use Rattle.tx_session.specs.declared.session.Next.TheVariants as nexts
use Rattle.tx_session.specs.declared.kept_line.KeptLine.{KeptLine}
use Rattle.tx_session.specs.declared.script.Turn.{Turn}
use Rattle.tx_session.specs.declared.script.Turn.TheVariants as turns
use Rattle.tx_print.specs.Lines.{line}
use Rattle.tx_session.specs.Replies.{IsLineReply}
use Rattle.tx_session.specs.Worlds.{World, LineMark}
use Rattle.tx_session.specs.Scripts.{IsOneLine, HasEndedLines, Answered, command_line}
use Rattle.tx_session.specs.Keeping.{StandsAnswered, StandsWith, IsCutAt, IsTurned, TurnLeadsTo}

-- no byte
pub no_lines : HasEndedLines [] [] []
no_lines = record { whole = refl; each = All-nil IsOneLine; last = All-nil (λ b. b ≢ 10) }

-- one byte more of a line
pub line_goes_on : (bytes : List ℕ) (ended : List (List ℕ)) (rest : List ℕ) (b : ℕ) → b ≢ 10
    → HasEndedLines bytes ended rest → HasEndedLines (bytes ++ b ∷ []) ended (rest ++ b ∷ [])
line_goes_on bytes ended rest b other h =
    record {
      whole = ap (λ x. x ++ b ∷ []) h.whole ∙ append_assoc (flat_map line ended) rest (b ∷ []);
      each = h.each;
      last = grind (arith, common_steps, h.last, other);
    }

-- a line ends
pub line_ends : (bytes : List ℕ) (ended : List (List ℕ)) (rest : List ℕ) → HasEndedLines bytes ended rest
    → HasEndedLines (bytes ++ 10 ∷ []) (ended ++ rest ∷ []) []
line_ends bytes ended rest h =
    record {
      whole = grind (arith, common_steps, flat_map-append, h.whole);
      each = grind (arith, common_steps, h.each, h.last);
      last = All-nil (λ b. b ≢ 10);
    }

-- one line more is executed
pub answered_next : (seen : World) (lines : List (List ℕ)) (marks : List LineMark) (between last : World)
    (text reply one : List ℕ) (mark : LineMark)
    → Answered seen lines marks between text → IsLineReply between (command_line one) mark last reply
    → Answered seen (lines ++ one ∷ []) (marks ++ mark ∷ []) last (text ++ reply)
answered_next seen [] [] between last text reply one mark a r = (
  last,
  reply,
  [],
  subst (λ s. IsLineReply s (command_line one) mark last reply) a.0 r,
  (refl, refl),
  ap (λ x. x ++ reply) a.1 ∙ sym (append-nil reply),
)
answered_next seen [] (m ∷ marks) between last text reply one mark a r = absurd a
answered_next seen (l ∷ lines) [] between last text reply one mark a r = absurd a
answered_next seen (l ∷ lines) (m ∷ marks) between last text reply one mark a r = (
  a.0,
  a.1,
  a.2 ++ reply,
  a.3,
  answered_next a.0 lines marks between last a.2 reply one mark a.4 r,
  ap (λ x. x ++ reply) a.5 ∙ append_assoc a.1 a.2 reply,
)

-- the start of a script
pub stands_first : (start : World) (before : Option (List ℕ)) → before ≡ append_known before []
    → StandsAnswered start before [] [] start before
stands_first start before e =
    record { ended = []; marks = []; replies = []; lines = no_lines; answered = (refl, refl); written = e }

-- the next byte belongs to the line
pub stands_on : (start : World) (before : Option (List ℕ)) (bytes rest : List ℕ) (b : ℕ) (seen : World)
    (after : Option (List ℕ)) → b ≢ 10
    → StandsAnswered start before bytes rest seen after
    → StandsAnswered start before (bytes ++ b ∷ []) (rest ++ b ∷ []) seen after
stands_on start before bytes rest b seen after other s =
    record {
      ended = s.ended;
      marks = s.marks;
      replies = s.replies;
      lines = line_goes_on bytes s.ended rest b other s.lines;
      answered = s.answered;
      written = s.written;
    }

-- the next byte ends the line, which is executed
pub stands_next : (start : World) (before : Option (List ℕ)) (bytes rest : List ℕ) (seen next : World)
    (between after : Option (List ℕ))
    → ((mark : LineMark) × (reply : List ℕ) × IsLineReply seen (command_line rest) mark next reply
    × (after ≡ append_known between reply))
    → StandsAnswered start before bytes rest seen between → StandsAnswered start before (bytes ++ 10 ∷ []) [] next after
stands_next start before bytes rest seen next between after r s =
    record {
      ended = s.ended ++ rest ∷ [];
      marks = s.marks ++ r.0 ∷ [];
      replies = s.replies ++ r.1;
      lines = line_ends bytes s.ended rest s.lines;
      answered = answered_next start s.ended s.marks seen next s.replies r.1 rest r.0 s.answered r.2;
      written = append_known-then before between after s.replies r.1 s.written r.3;
    }

-- what became of a line, where the session goes on
pub turned_go : (n : Next) (seen next : World) (bytes : List ℕ) (before after : Option (List ℕ)) → n ≡ nexts.Go
    → IsTurned (Ok n) seen bytes next before after
    → (mark : LineMark) × (reply : List ℕ) × IsLineReply seen (command_line bytes) mark next reply
    × (after ≡ append_known before reply)
turned_go nexts.Go seen next bytes before after e t = t
turned_go nexts.Quit seen next bytes before after e t = cc

pub turned_cut : (result : Result Next WriteFault) (fault : WriteFault) (seen next : World) (bytes : List ℕ)
    (before after : Option (List ℕ)) → result ≡ Err fault → IsTurned result seen bytes next before after
    → (mark : LineMark) × (reply : List ℕ) × IsLineReply seen (command_line bytes) mark next reply
    × AppendsPart reply before after
turned_cut result fault seen next bytes before after e t = subst (λ r. IsTurned r seen bytes next before after) e t

-- the reply to the line that ends is written in part
pub cut_at : (start : World) (before : Option (List ℕ)) (bytes rest : List ℕ) (seen next : World)
    (between after : Option (List ℕ))
    → ((mark : LineMark) × (reply : List ℕ) × IsLineReply seen (command_line rest) mark next reply
    × AppendsPart reply between after)
    → StandsAnswered start before bytes rest seen between → IsCutAt start before bytes next after
cut_at start before bytes rest seen next between after r s =
    record {
      rest = rest;
      seen = seen;
      between = between;
      mark = r.0;
      reply = r.1;
      stands = s;
      replied = r.2;
      part = r.3;
    }

pub ends_at : (bytes : List ℕ) (b : ℕ) → b ≡ 10 → bytes ++ b ∷ [] ≡ bytes ++ 10 ∷ []
ends_at bytes b e = ap (λ x. bytes ++ x ∷ []) e

-- where a session ended within some bytes, it ended within more of them
pub stops_within : (turn : Turn) (start : World) (before : Option (List ℕ)) (bytes more : List ℕ) (seen : World)
    (kept : KeptLine) (after : Option (List ℕ)) → turn ≢ turns.Go
    → TurnLeadsTo turn start before bytes seen kept after
    → TurnLeadsTo turn start before (bytes ++ more) seen kept after
stops_within turns.Go start before bytes more seen kept after other l = absurd (other refl)
stops_within turns.Quit start before bytes more seen kept after other l =
    (l.0, l.1 ++ more, l.2, ap (λ x. x ++ more) l.3 ∙ append_assoc l.0 (10 ∷ l.1) more, l.4, l.5)
stops_within turns.NoMemory start before bytes more seen kept after other l =
    (l.0, l.1 ++ more, l.2, l.3, ap (λ x. x ++ more) l.4 ∙ append_assoc l.0 (l.3 ∷ l.1) more, l.5, l.6, l.7)
stops_within turns.OutputFailed start before bytes more seen kept after other l =
    (l.0, l.1 ++ more, ap (λ x. x ++ more) l.2 ∙ append_assoc l.0 (10 ∷ l.1) more, l.3)

-- the next byte of a piece
pub piece_next : (bytes piece : List ℕ) (i : ℕ) → i < length piece
    → (bytes ++ take i piece) ++ slice_index_or piece i 0 ∷ [] ≡ bytes ++ take (i + 1) piece
piece_next bytes piece i lt = grind (arith, common_steps)

pub piece_rest : (bytes piece : List ℕ) (i : ℕ) → (bytes ++ take i piece) ++ drop i piece ≡ bytes ++ piece
piece_rest bytes piece i =
    append_assoc bytes (take i piece) (drop i piece) ∙ ap (λ x. bytes ++ x) (take-append-drop i piece)

pub stops_in_piece : (turn : Turn) (start : World) (before : Option (List ℕ)) (bytes piece : List ℕ) (i : ℕ)
    (seen : World) (kept : KeptLine) (after : Option (List ℕ)) → i < length piece → turn ≢ turns.Go
    → TurnLeadsTo turn start before ((bytes ++ take i piece) ++ slice_index_or piece i 0 ∷ []) seen kept after
    → TurnLeadsTo turn start before (bytes ++ piece) seen kept after
stops_in_piece turn start before bytes piece i seen kept after lt other l =
    subst (λ bs. TurnLeadsTo turn start before bs seen kept after) (piece_rest bytes piece (i + 1))
    (stops_within turn start before (bytes ++ take (i + 1) piece) (drop (i + 1) piece) seen kept after other
    (subst (λ bs. TurnLeadsTo turn start before bs seen kept after) (piece_next bytes piece i lt) l))

pub goes_on_in_piece : (turn : Turn) (start : World) (before : Option (List ℕ)) (bytes piece : List ℕ) (i : ℕ)
    (seen : World) (kept : KeptLine) (after : Option (List ℕ)) → i < length piece → turn ≡ turns.Go
    → TurnLeadsTo turn start before ((bytes ++ take i piece) ++ slice_index_or piece i 0 ∷ []) seen kept after
    → StandsWith start before (bytes ++ take (i + 1) piece) seen kept after
goes_on_in_piece turn start before bytes piece i seen kept after lt is l =
    subst (λ bs. StandsWith start before bs seen kept after) (piece_next bytes piece i lt)
    (subst (λ t. TurnLeadsTo t start before ((bytes ++ take i piece) ++ slice_index_or piece i 0 ∷ []) seen kept after)
    is l)

pub whole_piece : (start : World) (before : Option (List ℕ)) (bytes piece : List ℕ) (i : ℕ) (seen : World)
    (kept : KeptLine) (after : Option (List ℕ)) → length piece ≤ i
    → StandsWith start before (bytes ++ take i piece) seen kept after
    → StandsWith start before (bytes ++ piece) seen kept after
whole_piece start before bytes piece i seen kept after ge s =
    subst (λ p. StandsWith start before (bytes ++ p) seen kept after) (take_all i piece ge) s
