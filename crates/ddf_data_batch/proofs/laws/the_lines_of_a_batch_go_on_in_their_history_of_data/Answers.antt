use Rattle.ddf_data_batch.proofs.Through.{through}
use Rattle.ddf_data_batch.proofs.laws.the_lines_of_a_batch_go_on_in_their_history_of_data.Goals as goal

pub returns : goal.returns
returns g c = λ told stamp group images guid lines from to refused status ran old same all turns.
    through told g.B.Bay.disks g.S.Source.tells g.S.Source.input guid
    (λ start kept events. c.a_group_keeps_its_history_and_its_data_at_every_moment.ensures told guid start kept events) g.K.Sink.tells stamp group images turns lines from to refused status ran old same all
