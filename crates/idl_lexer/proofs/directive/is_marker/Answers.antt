use Rattle.std.proofs.Common.{◌≡◌, ◌∙◌, List, ℕ, ◌||◌, ap, sym}
use Rattle.std.specs.Char.{is_ascii_digit}
use Rattle.std.specs.List.{list_all}
use Rattle.idl_lexer.specs.Octets.{is_blank, past}
use Rattle.idl_lexer.specs.Directives.{directive_part, IsDigits, IsFile, IsMarker}
use Rattle.idl_lexer.proofs.directive.is_marker.Goals as goal

-- behind the number that is read stands the file of any marker
file_of : (line from rest body : List ℕ) → from ≡ directive_part line → IsDigits from rest → body ≡ past is_blank rest
    → (m : IsMarker line) → IsFile body m.behind_file
file_of line from rest body behind digits cut m =
    let same : rest ≡ m.behind_digits = digits.rest ∙ ap (past is_ascii_digit) behind ∙ sym m.number.rest in
    rw (cut ∙ ap (past is_blank) same) m.file

pub returns-in-None : goal.returns-in-None
returns-in-None c = (
  λ said. cc,
  λ m. absurd (c.in-None.ensures.none m.behind_file
      (file_of c.args.line.now _ c.in-Some.rest.now _ c.behind_hash.ensures c.in-Some.ensures.form
      c.past_blanks.ensures.value m)),
)

pub returns-then-has_hash : goal.returns-then-has_hash
returns-then-has_hash c = (
  λ said. record {
    hash = c.has_hash.ensures.0 c.if-has_hash.true;
    behind_digits = c.in-Some.rest.now;
    number = rw c.behind_hash.ensures at c.in-Some.ensures.form;
    behind_file = c.in-Some-file.numbers.now;
    file = rw c.past_blanks.ensures.value at c.in-Some-file.ensures.form;
    flags = sym c.are_blanks_or_digits.ensures ∙ said;
  },
  λ m.
      let same : m.behind_file ≡ c.in-Some-file.numbers.now =
      c.in-Some-file.ensures.one m.behind_file
      (file_of c.args.line.now _ c.in-Some.rest.now _ c.behind_hash.ensures c.in-Some.ensures.form
      c.past_blanks.ensures.value m) in
      c.are_blanks_or_digits.ensures ∙ sym (ap (list_all (λ o. is_blank o || is_ascii_digit o)) same) ∙ m.flags,
)
