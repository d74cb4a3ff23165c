-- A reference by its name.
use Rattle.std.proofs.Common.{◌≡◌, ◌<◌, ℕ, zero, suc, List, [], ◌∷◌, Option, Some, None, length, refl, sym, ap, ◌∙◌, subst, arith}
use Rattle.std.specs.List.{Contains, slice_get}
use Rattle.std.specs.Option.{option_and_then, option_map, unwrap_or}
use Rattle.ld_names.specs.Finding.{IsFileEquality}
use Rattle.ld_names.specs.Standing.{file_in, folders_of}
use Rattle.ld_names.specs.declared.file.FileId.{FileId}
use Rattle.ld_names.specs.declared.file.Folder.{Folder}
use Rattle.ld_graph.specs.Changing.{NamesText}
use Rattle.ld_graph.specs.Items.{Item, Items, file_at, found, found_by, names_at, numbers_of, presence, web_of}
use Rattle.ld_graph.specs.Web.{Refers}
use Rattle.ld_graph.specs.Inside.Linking.{AreUsers, LooksAt, RefersByName, Uses, found_by_name}
use Rattle.ld_graph.proofs.Dirt.{file_of_number}
use Rattle.ld_graph.proofs.FoundBy.{children_is, contains_found, file_is, found_by_some, number_of_found}

-- a text finds a child by a name
pub record FindsBy (items : Items) (user child : ℕ) (name : List ℕ) : Type 0 where
  pub from : FileId
  pub from_is : file_at items user ≡ Some from
  pub uses : Uses items user name
  pub finds : found items from.folder name ≡ Some child

pub finds_by : (items : Items) (user child : ℕ) → Refers (web_of items) user child → (name : List ℕ) × FindsBy items user child name
finds_by items user child r = at (slice_get items user) refl (subst (λ xs. Contains (unwrap_or xs []) child) (children_is items user) r)
  where
    at : (item : Option Item) → slice_get items user ≡ item → Contains (unwrap_or (unwrap_or (option_map (found_by items) item) None) []) child → (name : List ℕ) × FindsBy items user child name
    at None is c = absurd (omega (arith, c.1))
    at (Some (from, None)) is c = absurd (omega (arith, c.1))
    at (Some (from, Some names)) is c =
        let by = found_by_some (found items from.folder) names child c in (
          by.0,
          record {
            from = from;
            from_is = file_is items user ∙ ap (option_map (λ (item : Item). item.0)) is;
            uses = subst (λ o. Contains (unwrap_or (option_and_then (λ (item : Item). item.1) o) []) by.0) (sym is) by.1;
            finds = by.2;
          },
        )

pub refers_by : (items : Items) (user child : ℕ) (name : List ℕ) → FindsBy items user child name → Refers (web_of items) user child
refers_by items user child name by = subst (λ xs. Contains (unwrap_or xs []) child) (sym (children_is items user)) (at (slice_get items user) (sym (file_is items user) ∙ by.from_is) by.uses)
  where
    at : (item : Option Item) → option_map (λ (item : Item). item.0) item ≡ Some by.from → Contains (unwrap_or (option_and_then (λ (item : Item). item.1) item) []) name → Contains (unwrap_or (unwrap_or (option_map (found_by items) item) None) []) child
    at None e c = absurd (omega (arith, c.1))
    at (Some (from, None)) e c = absurd (omega (arith, c.1))
    at (Some (from, Some names)) e c =
        let same : by.from ≡ from = cc in
        contains_found (found items from.folder) names name child c (ap (λ (f : FileId). found items f.folder name) (sym same) ∙ by.finds)

pub known_file : (items : Items) (text : ℕ) → text < length items → (file : FileId) × (file_at items text ≡ Some file)
known_file [] text lt = absurd (omega arith)
known_file (item ∷ items) zero lt = (item.0, refl)
known_file (item ∷ items) (suc text) lt = known_file items text (omega arith)

pub by_file : (items : Items) (user text : ℕ) (from file : FileId) → file_at items text ≡ Some file → file_at items user ≡ Some from → found_by_name items user text ≡ found items from.folder file.name
by_file items user text from file is also =
    ap (option_and_then (λ (f : FileId). option_and_then (λ (g : FileId). found items g.folder f.name) (file_at items user))) is
    ∙ ap (option_and_then (λ (g : FileId). found items g.folder file.name)) also

-- a text that uses a name has a file
pub used_file : (items : Items) (user : ℕ) (name : List ℕ) → Uses items user name → (from : FileId) × (file_at items user ≡ Some from)
used_file items user name uses = at (slice_get items user) refl uses
  where
    at : (item : Option Item) → slice_get items user ≡ item → Contains (unwrap_or (option_and_then (λ (item : Item). item.1) item) []) name → (from : FileId) × (file_at items user ≡ Some from)
    at None is c = absurd (omega (arith, c.1))
    at (Some item) is c = (item.0, file_is items user ∙ ap (option_map (λ (one : Item). one.0)) is)

pub by_name : (items : Items) (user child text : ℕ) → RefersByName items user child text → Refers (web_of items) user child
by_name items user child text r =
    let from = used_file items user r.file.name r.uses in
    refers_by items user child r.file.name (record { from = from.0; from_is = from.1; uses = r.uses; finds = sym (by_file items user text from.0 r.file r.file_is from.1) ∙ r.finds })

-- a user of a text's name refers to what it finds by it
pub user_refers : (items : Items) (user text : ℕ) (users : List ℕ) → AreUsers items text users → Contains users user → (child : ℕ) → found_by_name items user text ≡ Some child → Refers (web_of items) user child
user_refers items user text users are c child finds = at (file_at items text) refl finds
  where
    at : (file : Option FileId) → file_at items text ≡ file → option_and_then (λ (f : FileId). option_and_then (λ (g : FileId). found items g.folder f.name) (file_at items user)) file ≡ Some child → Refers (web_of items) user child
    at None is e = cc
    at (Some file) is e = by_name items user child text (record { file = file; file_is = is; uses = (are file is user).0 c; finds = finds })

module _ (equality : IsFileEquality) where
  pub found_name : (items : Items) (child : ℕ) (folder : Folder) (name : List ℕ) → found items folder name ≡ Some child → (own : Folder) × (file_at items child ≡ Some (file_in own name))
  found_name items child folder name finds =
      let number = number_of_found (numbers_of items name) (presence items) (folders_of folder) child finds in
      (number.0, file_of_number equality items (file_in number.0 name) child number.1)

  -- whoever refers to a text does so by its name
  pub refers_name : (items : Items) (user text : ℕ) (file : FileId) → file_at items text ≡ Some file → Refers (web_of items) user text → Uses items user file.name × (found_by_name items user text ≡ Some text)
  refers_name items user text file is r =
      let by = finds_by items user text r in
      let own = found_name items text by.1.from.folder by.0 by.1.finds in
      let name : by.0 ≡ file.name = (let e : file ≡ file_in own.0 by.0 = (let f = sym is ∙ own.1 in cc) in sym (ap (λ (f : FileId). f.name) e)) in (
        subst (Uses items user) name by.1.uses,
        by_file items user text by.1.from file is by.1.from_is ∙ ap (found items by.1.from.folder) (sym name) ∙ by.1.finds,
      )

-- naming, by the users of a name
pub namer_uses : (items : Items) (user text : ℕ) (n : NamesText items user text) → Uses items user n.file.name × LooksAt items user text
namer_uses items user text n = (
  subst (λ o. Contains (unwrap_or o []) n.file.name) (sym n.names_are) n.named,
  record { from = n.from; file = n.file; from_is = n.from_is; file_is = n.file_is; looked_in = n.looked_in },
)

pub names_text : (items : Items) (user text : ℕ) (file : FileId) → file_at items text ≡ Some file → Uses items user file.name → LooksAt items user text → NamesText items user text
names_text items user text file is uses looks = at (names_at items user) refl uses
  where
    at : (names : Option (List (List ℕ))) → names_at items user ≡ names → Contains (unwrap_or names []) file.name → NamesText items user text
    at None none c = absurd (omega (arith, c.1))
    at (Some names) are c =
        let same : looks.file ≡ file = (let e = sym looks.file_is ∙ is in cc) in
        record {
          from = looks.from;
          file = file;
          names = names;
          from_is = looks.from_is;
          file_is = is;
          names_are = are;
          named = c;
          looked_in = subst (λ (f : FileId). Contains (folders_of looks.from.folder) f.folder) same looks.looked_in;
        }
