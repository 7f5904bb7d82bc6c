use Rattle.std.proofs.Common.{sym, ap, ◌∙◌, ◌≡◌, ◌+◌, suc, map, arith}
use Rattle.idl_lexer.specs.Words.{unescaped}
use Rattle.idl_lexer.specs.IdentifiersLeft.{words_left}
use Rattle.name_table.specs.declared.search.Sight.TheVariants.{Seen}
use Rattle.name_table.specs.Search.{sight, inside, within}
use Rattle.name_table.proofs.table.Table.look_for_words.Goals as goal

pub loop-word-preserved : goal.loop-word-preserved
loop-word-preserved c =
    let es = c.args.self.now in
    let token = c.args.token in
    let e = c.in-Seen.entry in
    let x = c.new-word.result.text.now in
    let rest = map unescaped (words_left c.next-in-loop-word.new.self) in
    let next : e + 1 ≡ suc e = omega arith in
    let split = ap (map unescaped) c.in-Some-word.ensures.steps in
    let text = c.new-word.ensures ∙ c.unescaped-in-Seen.ensures in
    let found_is =
    c.sight-seen-in-Seen.ensures.kept
    ∙ ap (sight es x) (c.within.ensures ∙ ap (λ s. within es token s x) next)
    ∙ ap (λ w. sight es w (within es token (suc e) w)) text in
    record {
      small = c.sight-seen-in-Seen.ensures.small;
      same =
          ap (λ found. inside es token found rest) found_is
          ∙ sym (ap (inside es token (Seen e)) split)
          ∙ sym (ap (λ found. inside es token found (map unescaped (words_left c.loop-word.word-iterator)))
          c.in-Seen.is)
          ∙ c.loop-word.invariant.same;
    }
