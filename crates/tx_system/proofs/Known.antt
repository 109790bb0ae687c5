-- Known bytes over several calls.
use Rattle.std.proofs.Common.{◌≡◌, ℕ, ◌<◌, ◌+◌, List, [], ◌++◌, length, Option, Some, None, IfSome, refl, sym, ap, ◌∙◌}
use Rattle.std.proofs.Common.{append_assoc, length-append, arith}
use Rattle.std.proofs.lemmas.List.{append-nil}
use Rattle.std.specs.Io.KnownBytes.{Keeps, Appends, Consumes, IsAtEnd}

pub no_bytes : (known : Option (List ℕ)) → Consumes known known []
no_bytes None = tt
no_bytes (Some xs) = refl

pub read_more : (first before after : Option (List ℕ)) (out piece : List ℕ) → Consumes first before out
    → Consumes before after piece → Consumes first after (out ++ piece)
read_more None before after out piece h i = tt
read_more (Some xs) None after out piece h i = absurd h
read_more (Some xs) (Some ys) None out piece h i = absurd i
read_more (Some xs) (Some ys) (Some zs) out piece h i = h ∙ ap (λ z. out ++ z) i ∙ sym (append_assoc out piece zs)

-- at the end all has been read
pub read_all : (first before after : Option (List ℕ)) (out : List ℕ) → Consumes first before out
    → Consumes before after [] → IsAtEnd after → IfSome first (λ bytes. out ≡ bytes)
read_all None before after out h i e = tt
read_all (Some xs) None after out h i e = absurd h
read_all (Some xs) (Some ys) None out h i e = absurd i
read_all (Some xs) (Some ys) (Some zs) out h i e = sym (h ∙ ap (λ z. out ++ z) (i ∙ e) ∙ append-nil out)

-- where more was read than so many bytes, there are more
pub read_too_many : (most : ℕ) (first before after : Option (List ℕ)) (out piece : List ℕ) → Consumes first before out
    → Consumes before after piece → most < length out + length piece → IfSome first (λ bytes. most < length bytes)
read_too_many most None before after out piece h i m = tt
read_too_many most (Some xs) None after out piece h i m = absurd h
read_too_many most (Some xs) (Some ys) None out piece h i m = absurd i
read_too_many most (Some xs) (Some ys) (Some zs) out piece h i m =
    omega (arith, m, ap length h, ap length i, length-append out ys, length-append piece zs)

pub written_and_flushed : (before between after : Option (List ℕ)) (piece : List ℕ) → Appends before between piece
    → Keeps between after → Appends before after piece
written_and_flushed None between after piece h i = tt
written_and_flushed (Some xs) None after piece h i = absurd h
written_and_flushed (Some xs) (Some ys) None piece h i = absurd i
written_and_flushed (Some xs) (Some ys) (Some zs) piece h i = i ∙ h

pub ruleset read_rules = (no_bytes, read_more, read_all, read_too_many)
