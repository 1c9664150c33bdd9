use Rattle.ill_c.proofs.OneBuild.{builds_once, names_build_cause_once}
use Rattle.ill_c.proofs.OneResult.{writes_once, checks_once, compares_once, finds_once, writes_front_once, dumps_once, frames_once, says_of_cause_once, puts_once}
use Rattle.ill_schema.specs.Causes.{cause_clause, cause_name}
use Rattle.ill_schema.proofs.CauseNumbers.{one_clause, one_name}
use Rattle.ill_c.proofs.laws.calls_have_one_result.Goals as goal

pub returns : goal.returns
returns c = record { writes = writes_once; checks = checks_once; compares = compares_once; finds = finds_once; writes_front = writes_front_once; dumps = dumps_once; frames = frames_once; names_cause = says_of_cause_once cause_name one_name; gives_clause = says_of_cause_once cause_clause one_clause; puts = puts_once; builds = builds_once; names_build_cause = names_build_cause_once }
