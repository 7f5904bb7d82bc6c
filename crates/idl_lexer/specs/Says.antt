-- What a pragma for repository ids says, part by part of its line.
use Rattle.std.specs.Prelude.{◌≡◌, List, ℕ, [], take, drop, codes}
use Rattle.idl_lexer.specs.declared.pragmas.Pragma.{Pragma}
use Rattle.idl_lexer.specs.declared.pragmas.Pragma.TheVariants.{Prefix, Id, Version}
use Rattle.idl_lexer.specs.Directives.{before_quote, from_quote, pragma_rest, pragma_word, quoted_text, version_number, version_place, IsScopedName}

-- #pragma prefix "text"
pub record SaysPrefix (line text : List ℕ) : Type 0 where
  pub word : pragma_word line ≡ codes "prefix"
  pub texts : text ≡ quoted_text (pragma_rest line)

-- #pragma ID name "text"
pub record SaysId (line name text : List ℕ) : Type 0 where
  pub word : pragma_word line ≡ codes "ID"
  pub names : name ≡ before_quote (pragma_rest line)
  pub scoped : ∥ IsScopedName name [] ∥₁
  pub texts : text ≡ quoted_text (from_quote (pragma_rest line))

-- #pragma version name number
pub record SaysVersion (line name number : List ℕ) : Type 0 where
  pub word : pragma_word line ≡ codes "version"
  pub names : name ≡ take (version_place (pragma_rest line)) (pragma_rest line)
  pub scoped : ∥ IsScopedName name [] ∥₁
  pub numbers : number ≡ version_number (drop (version_place (pragma_rest line)) (pragma_rest line))

abbrev pub Says : List ℕ → Pragma → Type 0
Says line (Prefix text) = SaysPrefix line text.now
Says line (Id name text) = SaysId line name.now text.now
Says line (Version name number) = SaysVersion line name.now number.now
