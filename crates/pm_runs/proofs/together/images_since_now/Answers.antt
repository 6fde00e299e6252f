use Rattle.pm_runs.proofs.together.images_since_now.Goals as goal

pub returns : goal.returns
returns g c = g.met.D.Disk.only_now c.args.disk.now
