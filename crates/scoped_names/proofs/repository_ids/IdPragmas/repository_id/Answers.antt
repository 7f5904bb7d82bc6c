use Rattle.std.proofs.Common.{◌≡◌, ◌∙◌, Some, None, map, sym, ap}
use Rattle.std.specs.String.{string_bytes}
use Rattle.std.proofs.lemmas.Result.{IfOk-weaker}
use Rattle.scoped_names.specs.RepositoryIds.{VersionOf, WholeId, given_to, idl_format, path, repository_id}
use Rattle.scoped_names.specs.inner.IdsKept.{given_of}
use Rattle.scoped_names.proofs.IdFormats.{id_by_default, id_by_version, id_given_whole}
use Rattle.scoped_names.proofs.repository_ids.IdPragmas.repository_id.Goals as goal
use Rattle.scoped_names.proofs.repository_ids.IdPragmas.repository_id.Goals.{in-Some-Version, in-None}

pub returns-in-Some-Whole : goal.returns-in-Some-Whole
returns-in-Some-Whole c =
    let es = c.args.table.now in
    let given : given_to c.args.self.now c.args.entry ≡ Some (WholeId c.in-Some-Whole.text.now) =
    sym c.in-Some-Whole.ensures ∙ ap (λ x. Some (given_of x)) c.in-Some-Whole.field-0-is in
    let whole = id_given_whole es c.args.self.now c.args.entry c.in-Some-Whole.text.now given in
    IfOk-weaker c.from_str.result (λ t. string_bytes t ≡ c.in-Some-Whole.text.now)
    (λ t. string_bytes t ≡ repository_id es c.args.self.now c.args.entry) (λ t h. h ∙ whole) c.from_str.ensures.ok

pub returns : goal.returns
returns c =
    let es = c.args.table.now in
    let e = c.args.entry in
    let p = c.prefix.result in
    let names : map (λ n. n.now) c.as_slice.result.now ≡ path es e = ap (map (λ n. n.now)) c.as_slice.ensures.value
    ∙ c.in_ok-path.ensures in
    let all : idl_format p.now (map (λ n. n.now) c.as_slice.result.now) c.match-given.version.now
    ≡ repository_id es c.args.self.now e =
    elim c.match-given.branch [
      | in-Some-Version w ↦
          (let given : given_to c.args.self.now e ≡ Some (VersionOf w.in-Some-Version.number.now) =
          sym w.in-Some-Version.ensures ∙ ap (λ x. Some (given_of x)) w.in-Some-Version.field-0-is in
          id_by_version es c.args.self.now e p.now (map (λ n. n.now) c.as_slice.result.now) c.match-given.version.now
          c.prefix.ensures names
          (given ∙ ap (λ v. Some (VersionOf v.now)) (sym w.version-is)))
      | in-None w ↦
          (let given : given_to c.args.self.now e ≡ None = sym w.in-None.ensures in
          id_by_default es c.args.self.now e p.now (map (λ n. n.now) c.as_slice.result.now) c.match-given.version.now
          c.prefix.ensures names
          (ap (λ v. v.now) w.version-is) given)
    ] in
    IfOk-weaker c.id_text.result _ (λ t. string_bytes t ≡ repository_id es c.args.self.now e) (λ t h. h ∙ all)
    c.id_text.ensures
