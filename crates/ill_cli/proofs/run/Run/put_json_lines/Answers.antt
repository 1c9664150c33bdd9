use Rattle.ill_cli.proofs.run.Run.put_json_lines.Goals as goal

pub returns : goal.returns
returns g c = (c.put_results-done.result, rw c.new-writer.ensures at c.put_results-done.ensures, c.after_first.ensures)
