-- Mistakes that words make.
use Rattle.command_words.specs.declared.mistake.Mistake.{Mistake}
use Rattle.command_words.specs.declared.mistake.Mistake.TheVariants.{Usage, BadOrder, HexOrText, NoWord, NoMemory}

-- one that clap finds, a value in two forms or none, or want of memory
abbrev pub IsOfWords : Mistake → Type 0
IsOfWords (Usage error) = Unit {0}
IsOfWords (BadOrder error) = Unit {0}
IsOfWords HexOrText = Unit {0}
IsOfWords NoWord = ⊥
IsOfWords NoMemory = Unit {0}
