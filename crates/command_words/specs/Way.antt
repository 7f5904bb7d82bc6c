-- The commands that marshal a value.
use Rattle.std.specs.Prelude.{ℕ, List, codes}
use Rattle.command_words.specs.declared.requests.value.Way.{Way}
use Rattle.command_words.specs.declared.requests.value.Way.TheVariants.{Encode, Decode}

-- the word that asks for one
abbrev pub name_of : Way → List ℕ
name_of Encode = codes "encode"
name_of Decode = codes "decode"
