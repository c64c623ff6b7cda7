use Rattle.ddf_config_records.proofs.ElementRecords.{members_at_most}
use Rattle.ddf_config_records.proofs.element_reading.read_element.Goals as goal

pub unread-requires-clause-allowed : goal.unread-requires-clause-allowed
unread-requires-clause-allowed c = (members_at_most c.args.most c.args.bytes.now c.requires.sound).allowed

pub with_rest-requires-clause-allowed : goal.with_rest-requires-clause-allowed
with_rest-requires-clause-allowed c = (members_at_most c.args.most c.args.bytes.now c.requires.sound).allowed

pub with_rest-requires-clause-few : goal.with_rest-requires-clause-few
with_rest-requires-clause-few c = (members_at_most c.args.most c.args.bytes.now c.requires.sound).few
