-- The id of an entry by the parts of it.
use Rattle.std.proofs.Common.{◌≡◌, ◌∙◌, ℕ, List, Some, None, slice_get, codes, sym, ap}
use Rattle.name_table.specs.Entry.{Entry, prefix_in}
use Rattle.scoped_names.specs.RepositoryIds.{IdPragma, WholeId, VersionOf, given_to, id_by, idl_format, path, repository_id}

formed : (entries : List Entry) (e : ℕ) (prefix : List ℕ) (names : List (List ℕ)) (version : List ℕ)
    → prefix ≡ prefix_in (slice_get entries e) → names ≡ path entries e
    → idl_format prefix names version ≡ idl_format (prefix_in (slice_get entries e)) (path entries e) version
formed entries e prefix names version prefix_is names_are =
    ap (λ p. idl_format p names version) prefix_is
    ∙ ap (λ n. idl_format (prefix_in (slice_get entries e)) n version) names_are

pub id_by_default : (entries : List Entry) (given : List IdPragma) (e : ℕ) (prefix : List ℕ) (names : List (List ℕ))
    (version : List ℕ)
    → prefix ≡ prefix_in (slice_get entries e) → names ≡ path entries e → version ≡ codes "1.0"
    → given_to given e ≡ None
    → idl_format prefix names version ≡ repository_id entries given e
id_by_default entries given e prefix names version prefix_is names_are version_is none =
    let before = prefix_in (slice_get entries e) in
    formed entries e prefix names version prefix_is names_are
    ∙ ap (idl_format before (path entries e)) version_is ∙ sym (ap (λ g. id_by g before (path entries e)) none)

pub id_by_version : (entries : List Entry) (given : List IdPragma) (e : ℕ) (prefix : List ℕ) (names : List (List ℕ))
    (version : List ℕ)
    → prefix ≡ prefix_in (slice_get entries e) → names ≡ path entries e → given_to given e ≡ Some (VersionOf version)
    → idl_format prefix names version ≡ repository_id entries given e
id_by_version entries given e prefix names version prefix_is names_are is =
    formed entries e prefix names version prefix_is names_are
    ∙ sym (ap (λ g. id_by g (prefix_in (slice_get entries e)) (path entries e)) is)

pub id_given_whole : (entries : List Entry) (given : List IdPragma) (e : ℕ) (text : List ℕ)
    → given_to given e ≡ Some (WholeId text) → text ≡ repository_id entries given e
id_given_whole entries given e text is = sym (ap (λ g. id_by g (prefix_in (slice_get entries e)) (path entries e)) is)
