mod Six
mod SixCuts
mod Tried
mod Hold
