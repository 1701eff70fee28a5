-- `blocked_factor::runs::RunPanel::update_whole_tile` meets its contract, by cases on the number of columns. Assumes nothing.
use native.Mathlib.Omega.{arith}
use Rattle.blocked_factor.proofs.RunTiles.{shape_wide}
use Rattle.blocked_factor.proofs.runs.RunPanel.update_whole_tile.Goals as goal

pub returns-in-1 : goal.returns-in-1
returns-in-1 c = rw c.in-1.is c.update_tile.ensures

pub returns-in-2 : goal.returns-in-2
returns-in-2 c = rw c.in-2.is c.update_tile-in-2.ensures

pub returns-in-3 : goal.returns-in-3
returns-in-3 c = rw c.in-3.is c.update_tile-in-3.ensures

pub returns-in-4 : goal.returns-in-4
returns-in-4 c = rw c.in-4.is c.update_tile-in-4.ensures

pub returns-in-5 : goal.returns-in-5
returns-in-5 c = rw c.in-5.is c.update_tile-in-5.ensures

pub returns-in-6 : goal.returns-in-6
returns-in-6 c = rw c.in-6.is c.update_tile-in-6.ensures

pub returns-in-7 : goal.returns-in-7
returns-in-7 c = rw c.in-7.is c.update_tile-in-7.ensures

pub returns-in-8 : goal.returns-in-8
returns-in-8 c = rw c.in-8.is c.update_tile-in-8.ensures

pub returns-in-13 : goal.returns-in-13
returns-in-13 c = rw c.in-13.is c.update_tile-in-13.ensures

pub returns-in-14 : goal.returns-in-14
returns-in-14 c = rw c.in-14.is c.update_tile-in-14.ensures

pub returns-in-15 : goal.returns-in-15
returns-in-15 c = rw c.in-15.is c.update_tile-in-15.ensures

pub returns-in-16 : goal.returns-in-16
returns-in-16 c = rw c.in-16.is c.update_tile-in-16.ensures

pub returns-in_default : goal.returns-in_default
returns-in_default c =
    let e = shape_wide c.args.self.now.panel.g (omega arith) in
    rw (e.0, e.1) c.update_tile-in_default.ensures
