-- Repository ids at worked entries.
use Rattle.std.proofs.Common.{◌≡◌, ℕ, List, [], ◌∷◌, codes, None, refl}
use Rattle.idl_tree.specs.declared.kinds.EntryKind.{EntryKind}
use Rattle.idl_tree.specs.declared.kinds.EntryKind.TheVariants.{Module, Interface, Struct}
use Rattle.name_table.specs.Entry.{Entry}
use Rattle.idl_tree.specs.declared.names.At.{At}
use Rattle.scoped_names.specs.RepositoryIds.{WholeId, VersionOf, repository_id}
use Rattle.scoped_names.specs.IdPragmas.{said, SetsPrefix, Gives}

abbrev entry : ℕ → List ℕ → List ℕ → ℕ → EntryKind → Entry
entry scope name prefix token kind = record {
  scope = scope;
  name = name;
  token = token;
  kind = kind;
  bases = [];
  worth = None;
  stands_for = None;
  line = 1;
  identifier = token;
  prefix = prefix;
}

-- module M { struct A {..}; interface I { struct B {..}; }; };, where a prefix is set before it and another before B
abbrev modules : List ℕ → List ℕ → List Entry
modules first second =
    entry 0 (codes "M") first 2 Module ∷ entry 1 (codes "A") first 5 Struct ∷ entry 1 (codes "I") first 14 Interface
    ∷ entry 3 (codes "B") second 17 Struct ∷ []

pub without_prefix : repository_id (modules [] []) [] 1 ≡ codes "IDL:M/A:1.0"
without_prefix = refl

-- #pragma prefix "acme.org" before it
pub with_prefix : repository_id (modules (codes "acme.org") (codes "acme.org")) [] 1 ≡ codes "IDL:acme.org/M/A:1.0"
with_prefix = refl

pub deeper : repository_id (modules (codes "acme.org") (codes "acme.org")) [] 3 ≡ codes "IDL:acme.org/M/I/B:1.0"
deeper = refl

-- the prefix is that at the entry's own declaration
pub other_prefix : repository_id (modules (codes "p") (codes "q")) [] 3 ≡ codes "IDL:q/M/I/B:1.0"
other_prefix = refl

-- #pragma prefix "" takes it away
pub prefix_taken_away : repository_id (modules (codes "p") []) [] 3 ≡ codes "IDL:M/I/B:1.0"
prefix_taken_away = refl

abbrev said_at : At
said_at = record { token = 30; line = 9 }

-- #pragma version A 1.3
pub given_version : repository_id (modules (codes "p") [])
    (record { entry = 1; given = VersionOf (codes "1.3"); at = said_at } ∷ []) 1 ≡ codes "IDL:p/M/A:1.3"
given_version = refl

-- #pragma ID A "DCE:700dc518-0110-11ce-ac8f-0800090b5d3e:1"
pub given_id : repository_id (modules (codes "p") [])
    (record { entry = 1; given = WholeId (codes "DCE:7:1"); at = said_at } ∷ []) 1 ≡ codes "DCE:7:1"
given_id = refl

pub given_to_another : repository_id (modules [] [])
    (record { entry = 2; given = WholeId (codes "DCE:7:1"); at = said_at } ∷ []) 1 ≡ codes "IDL:M/A:1.0"
given_to_another = refl

-- ---- pragmas

pub prefix_said : said (codes "#pragma prefix \"acme.org\"") ≡ SetsPrefix (codes "acme.org")
prefix_said = refl

pub id_said : said (codes "# pragma ID M::A \"DCE:7:1\" ") ≡ Gives (codes "M::A ") (WholeId (codes "DCE:7:1"))
id_said = refl

pub version_said : said (codes "#pragma version ::A 1.3") ≡ Gives (codes "::A ") (VersionOf (codes "1.3"))
version_said = refl
