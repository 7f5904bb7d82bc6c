-- The words of a line as clap is to read them: it takes a word that begins with a minus for an option, though it be the
-- value of one.
use Rattle.std.specs.Prelude.{◌==◌, ◌&&◌, nat_lt, Bool, List, [], ◌∷◌, ◌++◌, length, slice_index, codes, if◌then◌else◌}
use Rattle.std.specs.Str.{bytes_eq}
use Rattle.clap.specs.Words.{Text}

-- it begins with a minus, and isn't one alone, which clap takes for a value
abbrev pub is_dashed : Text → Bool
is_dashed word = nat_lt 1 (length word) && slice_index word 0 == 45

-- words that begin with `--text`: with such a value it is one word, `--text=-5`
abbrev pub joined : List Text → List Text
joined [] = []
joined (word ∷ []) = word ∷ []
joined (word ∷ value ∷ rest) = if is_dashed value then (word ++ codes "=" ++ value) ∷ rest else word ∷ value ∷ rest

-- words with the first `--text` joined so; behind a word `--` none is an option
abbrev pub glued : List Text → List Text
glued [] = []
glued (word ∷ rest) =
    if bytes_eq word (codes "--text") then joined (word ∷ rest)
    else if bytes_eq word (codes "--") then word ∷ rest
    else word ∷ glued rest

-- those of the command `encode`; of any other they are read as they are
abbrev pub spoken : List Text → List Text
spoken [] = []
spoken (program ∷ []) = program ∷ []
spoken (program ∷ command ∷ rest) =
    if bytes_eq command (codes "encode") then program ∷ command ∷ glued rest else program ∷ command ∷ rest
