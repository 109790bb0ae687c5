-- The tables of what is shown: bytes by rows, and symbols by name.
use Rattle.std.specs.Prelude.{ℕ, ◌+◌, ◌-◌, ◌&&◌, nat_le, nat_lt, List, [], ◌∷◌, ◌++◌, length, get_or, Option, Some}
use Rattle.std.specs.Prelude.{None, if◌then◌else◌, codes}
use Rattle.std.specs.Str.{bytes_eq}

-- The rows of the table of bytes: a first byte, and what it and those after it show as.
abbrev pub byte_rows : List (ℕ × List ℕ)
byte_rows =
    (0, 0x60 ∷ 0xB4 ∷ 0x2C6 ∷ 0x2DC ∷ 0xA8 ∷ 0x2DD ∷ 0x2DA ∷ 0x2C7 ∷ 0x2D8 ∷ []) ∷
    (11, 0xB8 ∷ 0x2DB ∷ []) ∷
    (14, 0x2039 ∷ 0x203A ∷ []) ∷
    (16, 0x201C ∷ 0x201D ∷ 0x201E ∷ 0xAB ∷ 0xBB ∷ 0x2013 ∷ 0x2014 ∷ 0xFFFD ∷ []) ∷
    (24, 0x2080 ∷ 0x131 ∷ 0x237 ∷ 0xFB00 ∷ 0xFB01 ∷ 0xFB02 ∷ 0xFB03 ∷ 0xFB04 ∷ []) ∷
    (127, 0x2010 ∷ []) ∷
    (128, 0x102 ∷ 0x104 ∷ 0x106 ∷ 0x10C ∷ 0x10E ∷ 0x11A ∷ 0x118 ∷ 0x11E ∷ []) ∷
    (136, 0x139 ∷ 0x13D ∷ 0x141 ∷ 0x143 ∷ 0x147 ∷ 0x14A ∷ 0x150 ∷ 0x154 ∷ []) ∷
    (144, 0x158 ∷ 0x15A ∷ 0x160 ∷ 0x15E ∷ 0x164 ∷ 0x162 ∷ 0x170 ∷ 0x16E ∷ []) ∷
    (152, 0x178 ∷ 0x179 ∷ 0x17D ∷ 0x17B ∷ 0x132 ∷ 0x130 ∷ 0x111 ∷ 0xA7 ∷ []) ∷
    (160, 0x103 ∷ 0x105 ∷ 0x107 ∷ 0x10D ∷ 0x10F ∷ 0x11B ∷ 0x119 ∷ 0x11F ∷ []) ∷
    (168, 0x13A ∷ 0x13E ∷ 0x142 ∷ 0x144 ∷ 0x148 ∷ 0x14B ∷ 0x151 ∷ 0x155 ∷ []) ∷
    (176, 0x159 ∷ 0x15B ∷ 0x161 ∷ 0x15F ∷ 0x165 ∷ 0x163 ∷ 0x171 ∷ 0x16F ∷ []) ∷
    (184, 0xFF ∷ 0x17A ∷ 0x17E ∷ 0x17C ∷ 0x133 ∷ 0xA1 ∷ 0xBF ∷ 0xA3 ∷ []) ∷
    (215, 0x152 ∷ []) ∷
    (223, 0x1E9E ∷ []) ∷
    (247, 0x153 ∷ []) ∷
    (255, 0xDF ∷ []) ∷ []

-- the code point that rows give a byte; a byte of no row shows as itself
abbrev pub code_by : List (ℕ × List ℕ) → ℕ → ℕ
code_by [] b = b
code_by ((first, row) ∷ rows) b =
    if nat_le first b && nat_lt b (first + length row) then get_or row (b - first) b else code_by rows b

-- the code point that a byte shows as
unfoldable pub byte_code : ℕ → ℕ
byte_code b = code_by byte_rows b

-- names that show as a code point and the ones after it
abbrev pub named_from : ℕ → List (List ℕ) → List (List ℕ × ℕ)
named_from code [] = []
named_from code (name ∷ names) = (name, code) ∷ named_from (code + 1) names

-- the small Greek letters, without the final sigma
abbrev pub small_letters : List (List ℕ × ℕ)
small_letters =
    named_from 0x3B1 (
    codes "alpha" ∷ codes "beta" ∷ codes "gamma" ∷ codes "delta" ∷ codes "epsilon" ∷ codes "zeta" ∷ codes "eta" ∷
    codes "theta" ∷ codes "iota" ∷ codes "kappa" ∷ codes "lambda" ∷ codes "mu" ∷ codes "nu" ∷ codes "xi" ∷
    codes "omicron" ∷ codes "pi" ∷ codes "rho" ∷ []
    )
    ++ named_from 0x3C3 (
    codes "sigma" ∷ codes "tau" ∷ codes "upsilon" ∷ codes "phi" ∷ codes "chi" ∷ codes "psi" ∷ codes "omega" ∷ []
    )

-- the capital ones that no Latin letter looks like
abbrev pub capital_letters : List (List ℕ × ℕ)
capital_letters =
    (codes "Gamma", 0x393) ∷ (codes "Delta", 0x394) ∷ (codes "Theta", 0x398) ∷ (codes "Lambda", 0x39B) ∷
    (codes "Xi", 0x39E) ∷ (codes "Pi", 0x3A0) ∷ (codes "Sigma", 0x3A3) ∷ (codes "Upsilon", 0x3A5) ∷
    (codes "Phi", 0x3A6) ∷ (codes "Psi", 0x3A8) ∷ (codes "Omega", 0x3A9) ∷ []

abbrev pub signs : List (List ℕ × ℕ)
signs =
    (codes "less", 0x3C) ∷ (codes "gtr", 0x3E) ∷ (codes "leq", 0x2264) ∷ (codes "geq", 0x2265) ∷
    (codes "neq", 0x2260) ∷ (codes "in", 0x2208) ∷ (codes "infty", 0x221E) ∷ (codes "rightarrow", 0x2192) ∷
    (codes "leftarrow", 0x2190) ∷ (codes "times", 0xD7) ∷ (codes "cdot", 0x22C5) ∷ (codes "ldots", 0x2026) ∷
    (codes "forall", 0x2200) ∷ (codes "exists", 0x2203) ∷ (codes "pm", 0xB1) ∷ (codes "nbsp", 0xA0) ∷ []

-- the symbols that show as one code point by their name
abbrev pub named_symbols : List (List ℕ × ℕ)
named_symbols = small_letters ++ capital_letters ++ signs

-- the code point that a list gives a name
abbrev pub code_among : List (List ℕ × ℕ) → List ℕ → Option ℕ
code_among [] name = None
code_among ((known, code) ∷ others) name = if bytes_eq name known then Some code else code_among others name

-- the code point of a symbol that is known by its name
unfoldable pub named_code : List ℕ → Option ℕ
named_code name = code_among named_symbols name
