mod Showing
mod Fitting
mod Filling
mod Standing
mod Worked
