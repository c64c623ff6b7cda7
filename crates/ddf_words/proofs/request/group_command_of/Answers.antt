use Rattle.std.proofs.Common.{◌≡◌, ◌∷◌, ◌∙◌, List, drop, refl, sym, ap, string_bytes, arith}
use Rattle.std.proofs.lemmas.List.{nil_from_length}
use Rattle.ddf_words.specs.Words.{Word, words_of, AreBlocks, IsGroupCommand, IsNamed}
use Rattle.ddf_words.specs.declared.command.Command.TheVariants.{Assemble, Show, Read, Scrub, Resync, Rebuild, Write, Change}
use Rattle.ddf_words.specs.declared.command.Wish.TheVariants.{Delete, Accept}
use Rattle.ddf_words.proofs.Commands.{accept_names, assemble, assemble_alone, copyback, delete_names, join_words, other_name, read, read_names, rebuild, rebuild_names, resync, resync_names, scrub, scrub_names, show, show_alone, write, write_names}
use Rattle.ddf_words.proofs.Faults.{passed_on}
use Rattle.ddf_words.proofs.Places.{wrong_among}
use Rattle.ddf_words.proofs.Requests.{no_group_command, other_group_command, more_group_words}
use Rattle.ddf_words.proofs.Wishes.{accept, create, delete, fail, spare}
use Rattle.ddf_words.proofs.Lists.{named_words, some_left}
use Rattle.ddf_words.proofs.request.group_command_of.Goals as goal

pub returns-in_default-clause-place : goal.returns-in_default-clause-place
returns-in_default-clause-place c = λ place e.
    let same : 0 ≡ place = cc in
    rw same at (no_group_command (words_of c.args.words.now) (ap words_of (nil_from_length c.args.words.now c.in_default.ensures.cases)))

pub returns-in_default-as_str-clause-place : goal.returns-in_default-as_str-clause-place
returns-in_default-as_str-clause-place c = λ place e.
    let same : 0 ≡ place = cc in
    rw same at (other_group_command (words_of c.args.words.now) (words_of c.in-Some.rest.now) (string_bytes c.in-Some.name.now) (ap words_of c.in-Some.ensures.cases.0)
    (other_name (string_bytes c.in-Some.name.now) (record {
      assemble = λ e. c.in_default-as_str.not-assemble (c.as_str.ensures.value ∙ e);
      show = λ e. c.in_default-as_str.not-show (c.as_str.ensures.value ∙ e);
      read = λ e. c.in_default-as_str.not-read (c.as_str.ensures.value ∙ e);
      scrub = λ e. c.in_default-as_str.not-scrub (c.as_str.ensures.value ∙ e);
      resync = λ e. c.in_default-as_str.not-resync (c.as_str.ensures.value ∙ e);
      rebuild = λ e. c.in_default-as_str.not-rebuild (c.as_str.ensures.value ∙ e);
      copyback = λ e. c.in_default-as_str.not-copyback (c.as_str.ensures.value ∙ e);
      write = λ e. c.in_default-as_str.not-write (c.as_str.ensures.value ∙ e);
      create = λ e. c.in_default-as_str.not-create (c.as_str.ensures.value ∙ e);
      delete = λ e. c.in_default-as_str.not-delete (c.as_str.ensures.value ∙ e);
      accept = λ e. c.in_default-as_str.not-accept (c.as_str.ensures.value ∙ e);
      spare = λ e. c.in_default-as_str.not-spare (c.as_str.ensures.value ∙ e);
      fail = λ e. c.in_default-as_str.not-fail (c.as_str.ensures.value ∙ e);
      join = λ e. c.in_default-as_str.not-import (c.as_str.ensures.value ∙ e);
    })))

pub returns-in_default-rest-clause-place : goal.returns-in_default-rest-clause-place
returns-in_default-rest-clause-place c = λ place e.
    let same : 1 ≡ place = cc in
    let more = some_left c.in-Some.rest.now (omega (arith, c.in_default-rest.len_at_least)) in
    rw same at (more_group_words assemble (record { command = Assemble; takes_one = refl; spells = refl }) assemble_alone (words_of c.args.words.now) (words_of more.1.0) (string_bytes more.0)
    (ap words_of (c.in-Some.ensures.cases.0 ∙ ap (λ ws. c.in-Some.name.now ∷ ws) more.1.1) ∙ ap (λ (w : Word). w ∷ string_bytes more.0 ∷ words_of more.1.0) (sym c.as_str.ensures.value ∙ c.in-assemble.is)))

pub returns-in_default-rest-2-clause-place : goal.returns-in_default-rest-2-clause-place
returns-in_default-rest-2-clause-place c = λ place e.
    let same : 1 ≡ place = cc in
    let more = some_left c.in-Some.rest.now (omega (arith, c.in_default-rest-2.len_at_least)) in
    rw same at (more_group_words show (record { command = Show; takes_one = refl; spells = refl }) show_alone (words_of c.args.words.now) (words_of more.1.0) (string_bytes more.0)
    (ap words_of (c.in-Some.ensures.cases.0 ∙ ap (λ ws. c.in-Some.name.now ∷ ws) more.1.1) ∙ ap (λ (w : Word). w ∷ string_bytes more.0 ∷ words_of more.1.0) (sym c.as_str.ensures.value ∙ c.in-show.is)))

pub returns-in-create-clause-place : goal.returns-in-create-clause-place
returns-in-create-clause-place c = λ place e.
    rw (named_words (words_of c.args.words.now) (words_of c.in-Some.rest.now) (string_bytes c.in-Some.name.now) create (ap words_of c.in-Some.ensures.cases.0) (sym c.as_str.ensures.value ∙ c.in-create.is))
    (c.create_of.ensures.place place e)

pub returns-in-copyback-clause-place : goal.returns-in-copyback-clause-place
returns-in-copyback-clause-place c = λ place e.
    rw (named_words (words_of c.args.words.now) (words_of c.in-Some.rest.now) (string_bytes c.in-Some.name.now) copyback (ap words_of c.in-Some.ensures.cases.0) (sym c.as_str.ensures.value ∙ c.in-copyback.is))
    (c.copyback_of.ensures.place place e)

pub returns-in-spare-clause-place : goal.returns-in-spare-clause-place
returns-in-spare-clause-place c = λ place e.
    rw (named_words (words_of c.args.words.now) (words_of c.in-Some.rest.now) (string_bytes c.in-Some.name.now) spare (ap words_of c.in-Some.ensures.cases.0) (sym c.as_str.ensures.value ∙ c.in-spare.is))
    (c.spare_of.ensures.place place e)

pub returns-in-fail-clause-place : goal.returns-in-fail-clause-place
returns-in-fail-clause-place c = λ place e.
    rw (named_words (words_of c.args.words.now) (words_of c.in-Some.rest.now) (string_bytes c.in-Some.name.now) fail (ap words_of c.in-Some.ensures.cases.0) (sym c.as_str.ensures.value ∙ c.in-fail.is))
    (c.fail_of.ensures.place place e)

pub returns-in-import-clause-place : goal.returns-in-import-clause-place
returns-in-import-clause-place c = λ place e.
    rw (named_words (words_of c.args.words.now) (words_of c.in-Some.rest.now) (string_bytes c.in-Some.name.now) join_words (ap words_of c.in-Some.ensures.cases.0) (sym c.as_str.ensures.value ∙ c.in-import.is))
    (c.import_of.ensures.place place e)

is_read : (words : List Word) → AreBlocks read words → IsGroupCommand words
is_read words is = record { command = Read is.name is.start is.count; takes_one = refl; spells = is.spells }

pub returns-in_err-name-in-read-clause-place : goal.returns-in_err-name-in-read-clause-place
returns-in_err-name-in-read-clause-place c = λ place e.
    rw (named_words (words_of c.args.words.now) (words_of c.in-Some.rest.now) (string_bytes c.in-Some.name.now) read (ap words_of c.in-Some.ensures.cases.0) (sym c.as_str.ensures.value ∙ c.in-read.is))
    (wrong_among (AreBlocks read) IsGroupCommand read (drop 1 (words_of c.args.words.now)) place is_read (λ more is. read_names more is.command is.spells)
    (c.blocks_of.ensures.place place (passed_on c.blocks_of.result c.in_err-name-in-read.field-0.0 c.from_residual.result place c.in_err-name-in-read.was c.from_residual.ensures.1 e) read))

pub returns-in_ok-name-in-read-clause-found : goal.returns-in_ok-name-in-read-clause-found
returns-in_ok-name-in-read-clause-found c =
    rw (named_words (words_of c.args.words.now) (words_of c.in-Some.rest.now) (string_bytes c.in-Some.name.now) read (ap words_of c.in-Some.ensures.cases.0) (sym c.as_str.ensures.value ∙ c.in-read.is))
    (c.in_ok-name-in-read.ensures.found read)

is_scrub : (words : List Word) → IsNamed scrub words → IsGroupCommand words
is_scrub words is = record { command = Scrub is.name; takes_one = refl; spells = is.spells }

pub returns-in_err-name-in-scrub-clause-place : goal.returns-in_err-name-in-scrub-clause-place
returns-in_err-name-in-scrub-clause-place c = λ place e.
    rw (named_words (words_of c.args.words.now) (words_of c.in-Some.rest.now) (string_bytes c.in-Some.name.now) scrub (ap words_of c.in-Some.ensures.cases.0) (sym c.as_str.ensures.value ∙ c.in-scrub.is))
    (wrong_among (IsNamed scrub) IsGroupCommand scrub (drop 1 (words_of c.args.words.now)) place is_scrub (λ more is. scrub_names more is.command is.spells)
    (c.named_of.ensures.place place (passed_on c.named_of.result c.in_err-name-in-scrub.field-0.0 c.from_residual-in_err-name-in-scrub.result place c.in_err-name-in-scrub.was c.from_residual-in_err-name-in-scrub.ensures.1 e) scrub))

pub returns-in_ok-name-in-scrub-clause-found : goal.returns-in_ok-name-in-scrub-clause-found
returns-in_ok-name-in-scrub-clause-found c =
    rw (named_words (words_of c.args.words.now) (words_of c.in-Some.rest.now) (string_bytes c.in-Some.name.now) scrub (ap words_of c.in-Some.ensures.cases.0) (sym c.as_str.ensures.value ∙ c.in-scrub.is))
    (c.in_ok-name-in-scrub.ensures.found scrub)

is_resync : (words : List Word) → IsNamed resync words → IsGroupCommand words
is_resync words is = record { command = Resync is.name; takes_one = refl; spells = is.spells }

pub returns-in_err-name-in-resync-clause-place : goal.returns-in_err-name-in-resync-clause-place
returns-in_err-name-in-resync-clause-place c = λ place e.
    rw (named_words (words_of c.args.words.now) (words_of c.in-Some.rest.now) (string_bytes c.in-Some.name.now) resync (ap words_of c.in-Some.ensures.cases.0) (sym c.as_str.ensures.value ∙ c.in-resync.is))
    (wrong_among (IsNamed resync) IsGroupCommand resync (drop 1 (words_of c.args.words.now)) place is_resync (λ more is. resync_names more is.command is.spells)
    (c.named_of-in-resync.ensures.place place (passed_on c.named_of-in-resync.result c.in_err-name-in-resync.field-0.0 c.from_residual-in_err-name-in-resync.result place c.in_err-name-in-resync.was c.from_residual-in_err-name-in-resync.ensures.1 e) resync))

pub returns-in_ok-name-in-resync-clause-found : goal.returns-in_ok-name-in-resync-clause-found
returns-in_ok-name-in-resync-clause-found c =
    rw (named_words (words_of c.args.words.now) (words_of c.in-Some.rest.now) (string_bytes c.in-Some.name.now) resync (ap words_of c.in-Some.ensures.cases.0) (sym c.as_str.ensures.value ∙ c.in-resync.is))
    (c.in_ok-name-in-resync.ensures.found resync)

is_rebuild : (words : List Word) → IsNamed rebuild words → IsGroupCommand words
is_rebuild words is = record { command = Rebuild is.name; takes_one = refl; spells = is.spells }

pub returns-in_err-name-in-rebuild-clause-place : goal.returns-in_err-name-in-rebuild-clause-place
returns-in_err-name-in-rebuild-clause-place c = λ place e.
    rw (named_words (words_of c.args.words.now) (words_of c.in-Some.rest.now) (string_bytes c.in-Some.name.now) rebuild (ap words_of c.in-Some.ensures.cases.0) (sym c.as_str.ensures.value ∙ c.in-rebuild.is))
    (wrong_among (IsNamed rebuild) IsGroupCommand rebuild (drop 1 (words_of c.args.words.now)) place is_rebuild (λ more is. rebuild_names more is.command is.spells)
    (c.named_of-in-rebuild.ensures.place place (passed_on c.named_of-in-rebuild.result c.in_err-name-in-rebuild.field-0.0 c.from_residual-in_err-name-in-rebuild.result place c.in_err-name-in-rebuild.was c.from_residual-in_err-name-in-rebuild.ensures.1 e) rebuild))

pub returns-in_ok-name-in-rebuild-clause-found : goal.returns-in_ok-name-in-rebuild-clause-found
returns-in_ok-name-in-rebuild-clause-found c =
    rw (named_words (words_of c.args.words.now) (words_of c.in-Some.rest.now) (string_bytes c.in-Some.name.now) rebuild (ap words_of c.in-Some.ensures.cases.0) (sym c.as_str.ensures.value ∙ c.in-rebuild.is))
    (c.in_ok-name-in-rebuild.ensures.found rebuild)

is_write : (words : List Word) → AreBlocks write words → IsGroupCommand words
is_write words is = record { command = Write is.name is.start is.count; takes_one = refl; spells = is.spells }

pub returns-in_err-name-in-write-clause-place : goal.returns-in_err-name-in-write-clause-place
returns-in_err-name-in-write-clause-place c = λ place e.
    rw (named_words (words_of c.args.words.now) (words_of c.in-Some.rest.now) (string_bytes c.in-Some.name.now) write (ap words_of c.in-Some.ensures.cases.0) (sym c.as_str.ensures.value ∙ c.in-write.is))
    (wrong_among (AreBlocks write) IsGroupCommand write (drop 1 (words_of c.args.words.now)) place is_write (λ more is. write_names more is.command is.spells)
    (c.blocks_of-in-write.ensures.place place (passed_on c.blocks_of-in-write.result c.in_err-name-in-write.field-0.0 c.from_residual-in_err-name-in-write.result place c.in_err-name-in-write.was c.from_residual-in_err-name-in-write.ensures.1 e) write))

pub returns-in_ok-name-in-write-clause-found : goal.returns-in_ok-name-in-write-clause-found
returns-in_ok-name-in-write-clause-found c =
    rw (named_words (words_of c.args.words.now) (words_of c.in-Some.rest.now) (string_bytes c.in-Some.name.now) write (ap words_of c.in-Some.ensures.cases.0) (sym c.as_str.ensures.value ∙ c.in-write.is))
    (c.in_ok-name-in-write.ensures.found write)

is_delete : (words : List Word) → IsNamed delete words → IsGroupCommand words
is_delete words is = record { command = Change (Delete is.name); takes_one = refl; spells = is.spells }

pub returns-in_err-name-in-delete-clause-place : goal.returns-in_err-name-in-delete-clause-place
returns-in_err-name-in-delete-clause-place c = λ place e.
    rw (named_words (words_of c.args.words.now) (words_of c.in-Some.rest.now) (string_bytes c.in-Some.name.now) delete (ap words_of c.in-Some.ensures.cases.0) (sym c.as_str.ensures.value ∙ c.in-delete.is))
    (wrong_among (IsNamed delete) IsGroupCommand delete (drop 1 (words_of c.args.words.now)) place is_delete (λ more is. delete_names more is.command is.spells)
    (c.named_of-in-delete.ensures.place place (passed_on c.named_of-in-delete.result c.in_err-name-in-delete.field-0.0 c.from_residual-in_err-name-in-delete.result place c.in_err-name-in-delete.was c.from_residual-in_err-name-in-delete.ensures.1 e) delete))

pub returns-in_ok-name-in-delete-clause-found : goal.returns-in_ok-name-in-delete-clause-found
returns-in_ok-name-in-delete-clause-found c =
    rw (named_words (words_of c.args.words.now) (words_of c.in-Some.rest.now) (string_bytes c.in-Some.name.now) delete (ap words_of c.in-Some.ensures.cases.0) (sym c.as_str.ensures.value ∙ c.in-delete.is))
    (c.in_ok-name-in-delete.ensures.found delete)

is_accept : (words : List Word) → IsNamed accept words → IsGroupCommand words
is_accept words is = record { command = Change (Accept is.name); takes_one = refl; spells = is.spells }

pub returns-in_err-name-in-accept-clause-place : goal.returns-in_err-name-in-accept-clause-place
returns-in_err-name-in-accept-clause-place c = λ place e.
    rw (named_words (words_of c.args.words.now) (words_of c.in-Some.rest.now) (string_bytes c.in-Some.name.now) accept (ap words_of c.in-Some.ensures.cases.0) (sym c.as_str.ensures.value ∙ c.in-accept.is))
    (wrong_among (IsNamed accept) IsGroupCommand accept (drop 1 (words_of c.args.words.now)) place is_accept (λ more is. accept_names more is.command is.spells)
    (c.named_of-in-accept.ensures.place place (passed_on c.named_of-in-accept.result c.in_err-name-in-accept.field-0.0 c.from_residual-in_err-name-in-accept.result place c.in_err-name-in-accept.was c.from_residual-in_err-name-in-accept.ensures.1 e) accept))

pub returns-in_ok-name-in-accept-clause-found : goal.returns-in_ok-name-in-accept-clause-found
returns-in_ok-name-in-accept-clause-found c =
    rw (named_words (words_of c.args.words.now) (words_of c.in-Some.rest.now) (string_bytes c.in-Some.name.now) accept (ap words_of c.in-Some.ensures.cases.0) (sym c.as_str.ensures.value ∙ c.in-accept.is))
    (c.in_ok-name-in-accept.ensures.found accept)
