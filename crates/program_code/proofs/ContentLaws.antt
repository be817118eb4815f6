-- The code of what files say: more nodes keep it, and more paths have more of it.
use Rattle.std.proofs.Common.{◌≡◌, List, [], ◌∷◌, ◌++◌, Option, sym, ap, ◌∙◌}
use Rattle.std.proofs.Common.{append-nil, append_assoc}
use Rattle.program_places.specs.Paths.{Path}
use Rattle.program_places.specs.Places.{Content, Faulty, Assigned, Opened, Opening}
use Rattle.program_files.specs.Entries as plain
use Rattle.program_files.specs.Files.{UsedFile}
use Rattle.program_owners.specs.declared.owned.Owned.{Owned}
use Rattle.ruby_nodes.specs.Entries.{Entry, Extends}
use Rattle.ruby_nodes.proofs.Standing.{Stands_later}
use Rattle.program_methods.proofs.CodeLaws.{are_found_later}
use Rattle.program_code.specs.declared.content.ContentCode.{ContentCode}
use Rattle.program_code.specs.declared.content.ContentCode.TheVariants as code
use Rattle.program_code.specs.declared.opened.OpenedCode.{OpenedCode}
use Rattle.program_code.specs.Codes.{IsOpenedOf, IsContentOf, IsContentBy, AreContentsBy, AddsContents}
use Rattle.program_code.specs.Codes.{AreSaidOf, AreCodesOf}

-- ---- more nodes

opened_later : {a b : List Entry} → Extends a b → (code : OpenedCode) (opening : Opening) → IsOpenedOf a code opening →
    IsOpenedOf b code opening
opened_later e code opening h = record {
  opens = h.opens;
  singles = are_found_later e code.singles opening.singles h.singles;
  instances = are_found_later e code.instances opening.instances h.instances;
}

content_later : {a b : List Entry} → Extends a b → (c : ContentCode) (content : Content) → IsContentOf a c content →
    IsContentOf b c content
content_later e code.Faulty (Faulty error) h = tt
content_later e code.Faulty (Assigned value scopes) h = absurd h
content_later e code.Faulty (Opened opening) h = absurd h
content_later e (code.Assigned first around) (Faulty error) h = absurd h
content_later e (code.Assigned first around) (Assigned value scopes) h = (Stands_later e h.0, h.1)
content_later e (code.Assigned first around) (Opened opening) h = absurd h
content_later e (code.Opened opened) (Faulty error) h = absurd h
content_later e (code.Opened opened) (Assigned value scopes) h = absurd h
content_later e (code.Opened opened) (Opened opening) h = opened_later e opened opening h

contents_later : {a b : List Entry} → Extends a b → (file : UsedFile) (gs : List (List plain.Entry))
    (cs : List ContentCode) → AreContentsBy a file gs cs → AreContentsBy b file gs cs
contents_later e file [] [] h = tt
contents_later e file [] (c ∷ cs) h = absurd h
contents_later e file (g ∷ gs) [] h = absurd h
contents_later e file (g ∷ gs) (c ∷ cs) h =
    ((h.0.0, h.0.1, content_later e c h.0.0 h.0.2), contents_later e file gs cs h.1)

said_later : {a b : List Entry} → Extends a b → (all : List UsedFile) (file : UsedFile) (ps : List Path)
    (cs : List ContentCode) → AreSaidOf all a file ps cs → AreSaidOf all b file ps cs
said_later e all file [] [] h = tt
said_later e all file [] (c ∷ cs) h = absurd h
said_later e all file (p ∷ ps) [] h = absurd h
said_later e all file (p ∷ ps) (c ∷ cs) h =
    ((h.0.0, h.0.1, content_later e c h.0.0 h.0.2), said_later e all file ps cs h.1)

-- the code of rows stays their code
pub codes_later : {a b : List Entry} → Extends a b → (files : List (Option UsedFile)) (rows : List Owned)
    (cs : List ContentCode) → AreCodesOf files a rows cs → AreCodesOf files b rows cs
codes_later e files [] [] h = tt
codes_later e files [] (c ∷ cs) h = absurd h
codes_later e files (r ∷ rows) [] h = absurd h
codes_later e files (r ∷ rows) (c ∷ cs) h =
    let s = h.0.2 in ((h.0.0, h.0.1, (s.0, s.1, content_later e c s.0 s.2)), codes_later e files rows cs h.1)

-- ---- more code

contents_append : (known : List Entry) (file : UsedFile) (gs hs : List (List plain.Entry)) (cs ds : List ContentCode) →
    AreContentsBy known file gs cs → AreContentsBy known file hs ds →
    AreContentsBy known file (gs ++ hs) (cs ++ ds)
contents_append known file [] hs [] ds h k = k
contents_append known file [] hs (c ∷ cs) ds h k = absurd h
contents_append known file (g ∷ gs) hs [] ds h k = absurd h
contents_append known file (g ∷ gs) hs (c ∷ cs) ds h k = (h.0, contents_append known file gs hs cs ds h.1 k)

-- nothing is added
pub contents_none : (known : List Entry) (file : UsedFile) (codes : List ContentCode) →
    AddsContents known file codes codes []
contents_none known file codes = record { added = []; is = sym (append-nil codes); code = tt }

-- the code of one group more is added, with more nodes
pub contents_more : {a b : List Entry} {file : UsedFile} {x y z : List ContentCode} {gs : List (List plain.Entry)}
    (g : List plain.Entry) (c : ContentCode) → Extends a b → AddsContents a file x y gs → z ≡ y ++ c ∷ [] →
    IsContentBy b file g c → AddsContents b file x z (gs ++ g ∷ [])
contents_more {b} {file} {x} {gs} g c e h is k = record {
  added = h.added ++ c ∷ [];
  is = is ∙ ap (λ l. l ++ c ∷ []) h.is ∙ append_assoc x h.added (c ∷ []);
  code = contents_append b file gs (g ∷ []) h.added (c ∷ []) (contents_later e file gs h.added h.code) (k, tt);
}

-- rows and more rows have their code one behind the other
pub codes_append : (files : List (Option UsedFile)) (known : List Entry) (rows more : List Owned)
    (cs ds : List ContentCode) → AreCodesOf files known rows cs → AreCodesOf files known more ds →
    AreCodesOf files known (rows ++ more) (cs ++ ds)
codes_append files known [] more [] ds h k = k
codes_append files known [] more (c ∷ cs) ds h k = absurd h
codes_append files known (r ∷ rows) more [] ds h k = absurd h
codes_append files known (r ∷ rows) more (c ∷ cs) ds h k = (h.0, codes_append files known rows more cs ds h.1 k)
