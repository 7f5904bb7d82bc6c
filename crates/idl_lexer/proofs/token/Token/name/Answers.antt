use Rattle.std.proofs.Common.{◌≡◌, ◌≢◌, ◌∙◌, ℕ, List, [], ◌∷◌, Option, Some, None, Bor, unwrap_or, MatchOption, refl, sym, ap, lit<, arith}
use Rattle.std.proofs.lemmas.Str.Pattern.{strip_prefix_char}
use Rattle.std.proofs.lemmas.Bool.Decides.{nat_tests}
use Rattle.idl_lexer.specs.Tokens.{name_of}
use Rattle.idl_lexer.specs.Words.{unescaped}
use Rattle.idl_lexer.proofs.token.Token.name.Goals as goal

without : (bs : List ℕ) → ((rest : List ℕ) → bs ≢ 95 ∷ rest) → bs ≡ unescaped bs
without [] h = refl
without (c ∷ cs) h = let other : c ≢ 95 = λ e. h cs (ap (λ d. d ∷ cs) e) in grind (arith, nat_tests)

stripped : (bs : List ℕ) (whole : Bor (List ℕ)) (r : Option (Bor (List ℕ))) → whole.now ≡ bs
    → MatchOption r ((rest : List ℕ) → bs ≢ 95 ∷ rest) (λ x. bs ≡ 95 ∷ x.now) → (unwrap_or r whole).now ≡ unescaped bs
stripped bs whole None e h = e ∙ without bs h
stripped bs whole (Some x) e h = sym (ap unescaped h)

pub returns-in-Ident : goal.returns-in-Ident
returns-in-Ident c =
    ap (λ w. w.now) c.unwrap_or.ensures
    ∙ stripped _ _ _ refl (strip_prefix_char 95 _ _ c.strip_prefix.ensures.cases (lit< tt))
    ∙ sym (ap (λ k. name_of k c.args.self.now.text.now) c.in-Ident.is)
